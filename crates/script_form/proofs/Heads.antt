-- The first words of lines.
use Rattle.std.proofs.Common.{◌≡◌, ℕ, true, false, List, [], ◌∷◌, Some, None, refl, sym, subst, ⊎_elim}
use Rattle.std.specs.Prelude.{codes}
use Rattle.std.specs.Str.{bytes_eq}
use Rattle.std.proofs.lemmas.Bool.{cases_Bool}
use Rattle.std.proofs.lemmas.Slice.Eq.{bytes_eq-Decides}
use Rattle.script_form.specs.Reading.{order_of_word}
use Rattle.script_form.specs.Refusal.{most_arguments}
use Rattle.script_form.specs.Script.{Order, Step, Continue, Next, Finish, Locals, Where, Quit, IsOrder, order_words}

-- The word takes no argument, and is this order alone.
pub record IsPlain (head : List ℕ) (o : Order) : Type 0 where
  pub no_break : bytes_eq head (codes "break") ≡ false
  pub no_print : bytes_eq head (codes "print") ≡ false
  pub order : order_of_word head ≡ Some o
  pub spelled : order_words o ≡ head ∷ []
  pub good : IsOrder o
  pub arguments : most_arguments head ≡ Some 0

-- The word begins no command.
pub record IsNoHead (head : List ℕ) : Type 0 where
  pub no_break : bytes_eq head (codes "break") ≡ false
  pub no_print : bytes_eq head (codes "print") ≡ false
  pub order : order_of_word head ≡ None
  pub arguments : most_arguments head ≡ None

-- What a line can begin with.
pub data Heads : List ℕ → Type 0 where
  a_break : {head : List ℕ} → head ≡ codes "break" → Heads head
  a_print : {head : List ℕ} → head ≡ codes "print" → Heads head
  a_plain : {head : List ℕ} → (o : Order) → IsPlain head o → Heads head
  none : {head : List ℕ} → IsNoHead head → Heads head

pub is_step : IsPlain (codes "step") Step
unfolding order_of_word most_arguments
is_step = record { no_break = refl; no_print = refl; order = refl; spelled = refl; good = tt; arguments = refl }

pub is_continue : IsPlain (codes "continue") Continue
unfolding order_of_word most_arguments
is_continue = record { no_break = refl; no_print = refl; order = refl; spelled = refl; good = tt; arguments = refl }

pub is_next : IsPlain (codes "next") Next
unfolding order_of_word most_arguments
is_next = record { no_break = refl; no_print = refl; order = refl; spelled = refl; good = tt; arguments = refl }

pub is_finish : IsPlain (codes "finish") Finish
unfolding order_of_word most_arguments
is_finish = record { no_break = refl; no_print = refl; order = refl; spelled = refl; good = tt; arguments = refl }

pub is_locals : IsPlain (codes "locals") Locals
unfolding order_of_word most_arguments
is_locals = record { no_break = refl; no_print = refl; order = refl; spelled = refl; good = tt; arguments = refl }

pub is_where : IsPlain (codes "where") Where
unfolding order_of_word most_arguments
is_where = record { no_break = refl; no_print = refl; order = refl; spelled = refl; good = tt; arguments = refl }

pub is_quit : IsPlain (codes "quit") Quit
unfolding order_of_word most_arguments
is_quit = record { no_break = refl; no_print = refl; order = refl; spelled = refl; good = tt; arguments = refl }

-- a word that is known, or another
known : (A : Type 0) (head word : List ℕ) → (head ≡ word → A) → (bytes_eq head word ≡ false → A) → A
known A head word this other = ⊎_elim
    (λ (same : bytes_eq head word ≡ true). this ((bytes_eq-Decides head word).0 same))
    other
    (cases_Bool (bytes_eq head word))

no_head : (head : List ℕ) → bytes_eq head (codes "break") ≡ false → bytes_eq head (codes "print") ≡ false → bytes_eq head (codes "step") ≡ false
    → bytes_eq head (codes "continue") ≡ false → bytes_eq head (codes "next") ≡ false → bytes_eq head (codes "finish") ≡ false
    → bytes_eq head (codes "locals") ≡ false → bytes_eq head (codes "where") ≡ false → bytes_eq head (codes "quit") ≡ false → IsNoHead head
unfolding order_of_word most_arguments
no_head head b p s c n f l w q = record {
  no_break = b;
  no_print = p;
  order = rw (s, c, n, f, l, w, q);
  arguments = rw (b, p, s, c, n, f, l, w, q);
}

plain_as : (head word : List ℕ) (o : Order) → IsPlain word o → head ≡ word → Heads head
plain_as head word o plain same = a_plain o (subst (λ h. IsPlain h o) (sym same) plain)

pub heads : (head : List ℕ) → Heads head
heads head =
    known (Heads head) head (codes "break") a_break (λ b.
    known (Heads head) head (codes "print") a_print (λ p.
    known (Heads head) head (codes "step") (plain_as head (codes "step") Step is_step) (λ s.
    known (Heads head) head (codes "continue") (plain_as head (codes "continue") Continue is_continue) (λ c.
    known (Heads head) head (codes "next") (plain_as head (codes "next") Next is_next) (λ n.
    known (Heads head) head (codes "finish") (plain_as head (codes "finish") Finish is_finish) (λ f.
    known (Heads head) head (codes "locals") (plain_as head (codes "locals") Locals is_locals) (λ l.
    known (Heads head) head (codes "where") (plain_as head (codes "where") Where is_where) (λ w.
    known (Heads head) head (codes "quit") (plain_as head (codes "quit") Quit is_quit) (λ q.
    none (no_head head b p s c n f l w q))))))))))
