use Rattle.std.proofs.Common.{◌≡◌, ◌<◌, ◌^◌, take}
use Rattle.c_token.specs.Constants.{value_of}
use Rattle.c_token.proofs.constant.value_in.Given as goal

abbrev pub invariant-loop-byte : goal.invariant-loop-byte
invariant-loop-byte l = record { so_far : l.value ≡ value_of l.base (take l.byte-index l.digits); fits : l.value < 2 ^ 32 }
