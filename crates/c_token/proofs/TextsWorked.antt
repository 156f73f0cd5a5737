-- The tokens of the worked texts, computed.
use Rattle.std.proofs.Common.{refl}
use Rattle.c_token.specs.Bytes.{is_letter, is_digit, is_word_byte, is_blank, text_has, is_trigraph_end, is_replaced}
use Rattle.c_token.specs.Blanks.{blank_at, blanks_end}
use Rattle.c_token.specs.Constants.{digit_value, is_u, is_l, suffix_of, typed_constant, constant_in, constant_of, is_number_byte, constant_at}
use Rattle.c_token.specs.Includes.{is_inside, header_at, is_include_at, is_line_end, include_at}
use Rattle.c_token.specs.Items.{begins_constant, plain_token_at, token_at, item_at}
use Rattle.c_token.specs.Literals.{simple_escape, byte_of, octal_escape, hexadecimal_escape, escape_at, unit_at, literal_at, character_at}
use Rattle.c_token.specs.Punctuators.{is_digraph_at, longest_punctuator, punctuator_at}
use Rattle.c_token.specs.Texts.{tokens_of}
use Rattle.c_token.specs.Words.{keyword_of, keyword_or_name, word_at}
use Rattle.c_token.specs.TextsWorked.{AreWorked}

pub are_worked : AreWorked
unfolding tokens_of item_at token_at plain_token_at begins_constant include_at is_inside header_at is_include_at is_line_end blank_at blanks_end word_at keyword_or_name keyword_of constant_at constant_of constant_in typed_constant suffix_of is_u is_l digit_value is_number_byte punctuator_at longest_punctuator is_digraph_at is_letter is_digit is_word_byte is_blank text_has is_trigraph_end is_replaced character_at literal_at unit_at escape_at simple_escape byte_of octal_escape hexadecimal_escape
are_worked = record {
  declaration = refl;
  inside_a_function = refl;
  inside_an_initializer = refl;
  within_a_comment = refl;
  within_a_literal = refl;
  open_comment = refl;
}
