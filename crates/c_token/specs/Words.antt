-- Identifiers and keywords (ISO/IEC 9899:2011, 6.4.1 and 6.4.2).
use Rattle.std.specs.Prelude.{ℕ, ◌+◌, nat_lt, if◌then◌else◌, List, [], ◌∷◌, length, take, drop, Option, Some, None, Result, Ok, Err, codes}
use Rattle.std.specs.List.{prefix_len}
use Rattle.std.specs.Option.{option_map_or}
use Rattle.std.specs.Str.{bytes_eq}
use Rattle.debug_records.specs.declared.code.TheConstants.Code.{NAME_SIZE}
use Rattle.c_token.specs.declared.fault.Fault.{Fault}
use Rattle.c_token.specs.declared.token.Keyword.{Keyword}
use Rattle.c_token.specs.declared.token.Keyword.TheVariants as keyword
use Rattle.c_token.specs.Bytes.{is_word_byte}
use Rattle.c_token.specs.Lexemes as word
use Rattle.c_token.specs.Lexemes.{Word}
use Rattle.c_token.specs.Reading.{◌>>=◌, fault}

-- the keywords and how each is spelled
abbrev pub keywords : List (List ℕ × Keyword)
keywords =
    (codes "auto", keyword.Auto) ∷ (codes "break", keyword.Break) ∷ (codes "case", keyword.Case)
    ∷ (codes "char", keyword.Char) ∷ (codes "const", keyword.Const) ∷ (codes "continue", keyword.Continue)
    ∷ (codes "default", keyword.Default) ∷ (codes "do", keyword.Do) ∷ (codes "double", keyword.Double)
    ∷ (codes "else", keyword.Else) ∷ (codes "enum", keyword.Enum) ∷ (codes "extern", keyword.Extern)
    ∷ (codes "float", keyword.Float) ∷ (codes "for", keyword.For) ∷ (codes "goto", keyword.Goto)
    ∷ (codes "if", keyword.If) ∷ (codes "inline", keyword.Inline) ∷ (codes "int", keyword.Int)
    ∷ (codes "long", keyword.Long) ∷ (codes "register", keyword.Register) ∷ (codes "restrict", keyword.Restrict)
    ∷ (codes "return", keyword.Return) ∷ (codes "short", keyword.Short) ∷ (codes "signed", keyword.Signed)
    ∷ (codes "sizeof", keyword.Sizeof) ∷ (codes "static", keyword.Static) ∷ (codes "struct", keyword.Struct)
    ∷ (codes "switch", keyword.Switch) ∷ (codes "typedef", keyword.Typedef) ∷ (codes "union", keyword.Union)
    ∷ (codes "unsigned", keyword.Unsigned) ∷ (codes "void", keyword.Void) ∷ (codes "volatile", keyword.Volatile)
    ∷ (codes "while", keyword.While) ∷ (codes "_Alignas", keyword.Alignas) ∷ (codes "_Alignof", keyword.Alignof)
    ∷ (codes "_Atomic", keyword.Atomic) ∷ (codes "_Bool", keyword.Bool) ∷ (codes "_Complex", keyword.Complex)
    ∷ (codes "_Generic", keyword.Generic) ∷ (codes "_Imaginary", keyword.Imaginary)
    ∷ (codes "_Noreturn", keyword.Noreturn)
    ∷ (codes "_Static_assert", keyword.StaticAssert) ∷ (codes "_Thread_local", keyword.ThreadLocal) ∷ []

-- the keyword that is spelled so
abbrev pub find_keyword : List (List ℕ × Keyword) → List ℕ → Option Keyword
find_keyword [] s = None
find_keyword (k ∷ table) s = if bytes_eq s k.0 then Some k.1 else find_keyword table s

-- the keyword that letters spell, if they spell one
unfoldable pub keyword_of : List ℕ → Option Keyword
keyword_of s = find_keyword keywords s

-- a keyword, or a name of at most 63 bytes
unfoldable pub keyword_or_name : ℕ → List ℕ → Result Word Fault
keyword_or_name at s =
    option_map_or (λ k. Ok (word.Keyword k)) (keyword_of s)
    (if nat_lt 63 (length s) then Err (fault NAME_SIZE at) else Ok (word.Name s))

-- the word at an offset, which is the longest run of letters and digits there, and where it ends
unfoldable pub word_at : List ℕ → ℕ → Result (Word × ℕ) Fault
word_at text at =
    let size = prefix_len is_word_byte (drop at text) in
    keyword_or_name at (take size (drop at text)) >>= λ w. Ok (w, at + size)
