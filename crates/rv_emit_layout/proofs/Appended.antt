-- Functions that are laid out one behind the other.
use Rattle.std.proofs.Common.{◌≡◌, ◌≤◌, ◌-◌, ◌==◌, Bool, ℕ, ◌+◌, ◌<◌, List, [], ◌∷◌, ◌++◌, length, take, drop, map, get_or, refl, sym, ap, ◌∙◌, subst, arith}
use Rattle.std.proofs.lemmas.List.{append_assoc, append-nil, map-append}
use Rattle.graph_core.specs.Graphs.{Graph}
use Rattle.graph_homes.specs.declared.home.Home.{Home}
use Rattle.graph_homes.specs.Homed.{HomedForm, homes_in}
use Rattle.rv_emit_words.specs.Words.{words_in}
use Rattle.rv_emit_sequence.specs.Sequences.{counted, HasEnd, IsSequenceOf}
use Rattle.rv_emit_sequence.proofs.Splitting.{split_first}
use Rattle.rv_emit_layout.specs.declared.laying.Laid.{Laid}
use Rattle.rv_emit_layout.specs.Laid.{ground_for, laid_view, told_of_all, AreDrawn, IsDrawnOf, LaidForm, StaticForm}
use Rattle.rv_emit_layout.specs.Words.{most_laid_words, most_words_of_graph, most_words_of_graphs}
use Rattle.base_laws.proofs.Lists.{rest_is}

laid_append : (xs : List Laid) (one : Laid) → most_laid_words (xs ++ one ∷ []) ≡ most_laid_words xs + words_in one.sequence.pieces.items
laid_append [] one = omega arith
laid_append (x ∷ xs) one = omega (arith, laid_append xs one)

laid_put : (xs ys : List Laid) (one : Laid) → ys ≡ xs ++ one ∷ [] → most_laid_words ys ≡ most_laid_words xs + words_in one.sequence.pieces.items
laid_put xs ys one e = subst (λ zs. most_laid_words zs ≡ most_laid_words xs + words_in one.sequence.pieces.items) (sym e) (laid_append xs one)

-- one fewer is left
pub fewer : {A : Type 0} (left : List A) → 1 ≤ length left → length (take (length left - 1) (drop 1 left)) + 1 ≡ length left
fewer [] le = absurd (omega arith)
fewer (y ∷ left) le = ap (λ zs. length zs + 1) (rest_is y left) ∙ (let more : length left + 1 ≡ length (y ∷ left) = omega arith in more)

-- the first of the graphs that are left has few words
pub lay_step : {A : Type 0} (view : A → Graph) (left : List A) (xs ys : List Laid) (one : Laid) (x d : A) → 1 ≤ length left → x ≡ get_or left 0 d
    → words_in one.sequence.pieces.items ≤ most_words_of_graph (view x) → ys ≡ xs ++ one ∷ []
    → most_laid_words ys + most_words_of_graphs (map view (take (length left - 1) (drop 1 left))) ≤ most_laid_words xs + most_words_of_graphs (map view left)
lay_step view [] xs ys one x d le e few put = absurd (omega arith)
lay_step view (y ∷ left) xs ys one x d le e few put =
    let here : words_in one.sequence.pieces.items ≤ most_words_of_graph (view y) = subst (λ z. words_in one.sequence.pieces.items ≤ most_words_of_graph (view z)) e few in
    let all : most_laid_words ys + most_words_of_graphs (map view left) ≤ most_laid_words xs + (most_words_of_graph (view y) + most_words_of_graphs (map view left)) = omega (arith, laid_put xs ys one put, here) in
    subst (λ zs. most_laid_words ys + most_words_of_graphs (map view zs) ≤ most_laid_words xs + most_words_of_graphs (map view (y ∷ left))) (sym (rest_is y left)) all

-- The first of the functions that are left is drawn, and then the others.
pub laid_step : {A : Type 0} (view : A → Graph) (h : HomedForm) (s : StaticForm) (graphs : List Graph) (f next : ℕ) (left : List A) (xs ys : List Laid) (one : Laid) (x d : A) (homes : List Home) (is_main : Bool) (more : List LaidForm)
    → 1 ≤ length left → x ≡ get_or left 0 d → next ≡ counted (f + 1) → homes ≡ homes_in h f → is_main ≡ (f == h.unit.main) → IsDrawnOf s (view x) homes is_main (laid_view one) → ys ≡ xs ++ one ∷ []
    → ((all : List LaidForm) → AreDrawn h s f (map view left) all → AreDrawn h s 0 graphs (map laid_view xs ++ all))
    → AreDrawn h s next (map view (take (length left - 1) (drop 1 left))) more → AreDrawn h s 0 graphs (map laid_view ys ++ more)
laid_step view h s graphs f next left xs ys one x d homes is_main more some first after its main laid put before rest =
    let here : IsDrawnOf s (view x) (homes_in h f) (f == h.unit.main) (laid_view one) = subst (λ b. IsDrawnOf s (view x) (homes_in h f) b (laid_view one)) main (subst (λ l. IsDrawnOf s (view x) l is_main (laid_view one)) its laid) in
    let later : AreDrawn h s (counted (f + 1)) (map view (take (length left - 1) (drop 1 left))) more = subst (λ n. AreDrawn h s n (map view (take (length left - 1) (drop 1 left))) more) after rest in
    let both : AreDrawn h s f (map view left) (laid_view one ∷ more) = subst (λ l. AreDrawn h s f (map view l) (laid_view one ∷ more)) (sym (split_first left x d some first)) (here, later) in
    subst (λ l. AreDrawn h s 0 graphs l) (sym (ap (λ l. map laid_view l ++ more) put ∙ ap (λ l. l ++ more) (map-append laid_view xs (one ∷ [])) ∙ append_assoc (map laid_view xs) (laid_view one ∷ []) more)) (before (laid_view one ∷ more) both)

-- Where none is left, all are.
pub laid_end : {A : Type 0} (view : A → Graph) (h : HomedForm) (s : StaticForm) (graphs : List Graph) (f : ℕ) (left : List A) (all : List Laid) → length left ≡ 0
    → ((more : List LaidForm) → AreDrawn h s f (map view left) more → AreDrawn h s 0 graphs (map laid_view all ++ more)) → AreDrawn h s 0 graphs (map laid_view all)
laid_end view h s graphs f [] all none before = subst (λ l. AreDrawn h s 0 graphs l) (append-nil (map laid_view all)) (before [] tt)
laid_end view h s graphs f (x ∷ left) all none before = absurd (omega (arith, none))

-- As many functions are told as there are.
pub told_count : (graphs : List Graph) (firsts : List ℕ) (f : ℕ) (all : List LaidForm) → length (told_of_all graphs firsts f all) ≡ length all
told_count graphs firsts f [] = refl
told_count graphs firsts f (l ∷ more) = omega (arith, told_count graphs firsts (counted (f + 1)) more)

-- The pieces of a function whose end has this label.
pub laid_sequence : (s : StaticForm) (g : Graph) (homes : List Home) (is_main : Bool) (l : LaidForm) (e : ℕ) → e ≡ counted (length g.blocks)
    → (HasEnd (record { storage = (ground_for s g homes l).storage; entry = g.entry; saved = l.saved; size = l.size; end = e }) g → IsSequenceOf (record { storage = (ground_for s g homes l).storage; entry = g.entry; saved = l.saved; size = l.size; end = e }) g is_main l.sequence)
    → length g.blocks < 4294967295 → IsSequenceOf (ground_for s g homes l) g is_main l.sequence
laid_sequence s g homes is_main l e is made few =
    subst (λ n. IsSequenceOf (record { storage = (ground_for s g homes l).storage; entry = g.entry; saved = l.saved; size = l.size; end = n }) g is_main l.sequence) is
    (made (record { label = is ∙ (omega (arith, few)); few = few }))
