-- Where the code of functions lies.
use Rattle.std.specs.Prelude.{ℕ}
use Rattle.rv_emit_tables.specs.Emitted.{FunctionCode}
use Rattle.image_form.specs.declared.tables.Function.{Function}

-- The addresses of the first word of a function and behind its last one, and the bytes of its frame.
pub record Span : Type 0 where
  pub first : ℕ
  pub end : ℕ
  pub frame : ℕ

-- where an image says that the code of a function lies
abbrev pub span : Function → Span
span f = record { first = f.first; end = f.end; frame = f.frame }

-- the mask of the registers that an image says that a function saves
abbrev pub saved : Function → ℕ
saved f = f.saved

-- where it lies
abbrev pub code_span : FunctionCode → Span
code_span c = record { first = c.first; end = c.end; frame = c.frame }
