-- Numbers in decimal, with no zero in front: `decimal 120` is "120", and `signed_decimal` puts "-" before a negative
-- number.
pub use Rattle.std.specs.Fmt.{decimal, signed_decimal}
