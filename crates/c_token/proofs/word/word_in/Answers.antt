use Rattle.c_token.proofs.Ascii.{text_of_words}
use Rattle.c_token.proofs.word.word_in.Goals as goal

pub unwrap-name-requires : goal.unwrap-name-requires
unwrap-name-requires c = text_of_words _ c.args.word.now c.from_utf8.result c.requires c.from_utf8.ensures.cases
