use Rattle.c_token.specs.Bytes.{is_word_byte}
use Rattle.c_token.proofs.Runs.{all_of_prefix}
use Rattle.c_token.proofs.word.word_at.Goals as goal

pub word_in-requires : goal.word_in-requires
word_in-requires c = rw c.word_len-size.ensures.len (all_of_prefix is_word_byte _)
