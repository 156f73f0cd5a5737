-- The lists of targets, edge by edge.
use Rattle.std.proofs.Common.{◌≡◌, ℕ, ◌+◌, ◌<◌, ◌==◌, inl, inr, Bool, true, false, cond, Vec, Global, List, [], ◌∷◌, ◌++◌, length, map, take, get_or, refl, sym, ap, ◌∙◌, arith}
use Rattle.std.proofs.Math.ListN.{set}
use Rattle.std.proofs.lemmas.Bool.{cases_eq, eq-eqb, ne_eqb, cond-true, cond-false}
use Rattle.std.proofs.lemmas.List.{length-set, get_or-set_same, get_or-set_other, take_more, map-append}
use Rattle.graph_solve_problem.specs.declared.flow_graph.Edge.{Edge}
use Rattle.std.proofs.lemmas.List.Elements.{All-map}
use Rattle.graph_solve_problem.specs.Solution.{AreWithin}
use Rattle.graph_solve_problem.specs.Rounds.{directed}
use Rattle.graph_solve.specs.Work.{AreTargets, targets_from}

targets_push : (block : ℕ) (edges : List Edge) (edge : Edge) → targets_from block (edges ++ edge ∷ []) ≡ cond (edge.from == block) (targets_from block edges ++ edge.to ∷ []) (targets_from block edges)
targets_push block [] edge = refl
targets_push block (e ∷ edges) edge = ap (λ ts. cond (e.from == block) (e.to ∷ ts) ts) (targets_push block edges edge) ∙ spread (e.from == block) (edge.from == block) e.to edge.to (targets_from block edges)
  where
    spread : (b c : Bool) (x y : ℕ) (ts : List ℕ) → cond b (x ∷ cond c (ts ++ y ∷ []) ts) (cond c (ts ++ y ∷ []) ts) ≡ cond c (cond b (x ∷ ts) ts ++ y ∷ []) (cond b (x ∷ ts) ts)
    spread true true x y ts = refl
    spread true false x y ts = refl
    spread false true x y ts = refl
    spread false false x y ts = refl

pub targets_more : (edges : List Edge) (blocks : ℕ) (targets : List (Vec ℕ Global)) (edge : Edge) (v new : Vec ℕ Global) → AreTargets edges blocks targets → edge.from < blocks → v ≡ get_or targets edge.from v → new.items ≡ v.items ++ edge.to ∷ [] →
    AreTargets (edges ++ edge ∷ []) blocks (set targets edge.from new)
targets_more edges blocks targets edge v new are lt is pushed = record {
  each = length-set targets edge.from new ∙ are.each;
  at = λ block d less. elim (cases_eq block edge.from) [
    | inl e ↦
        ap (λ n. (get_or (set targets edge.from new) n d).items) e ∙ ap (λ (w : Vec ℕ Global). w.items) (get_or-set_same targets edge.from new d (omega (arith, are.each)))
        ∙ pushed ∙ ap (λ ts. ts ++ edge.to ∷ []) (ap (λ (w : Vec ℕ Global). w.items) is ∙ are.at edge.from v lt ∙ ap (λ n. targets_from n edges) (sym e))
        ∙ sym (targets_push block edges edge ∙ cond-true (edge.from == block) (targets_from block edges ++ edge.to ∷ []) (targets_from block edges) (eq-eqb edge.from block (sym e)))
    | inr ne ↦
        ap (λ (w : Vec ℕ Global). w.items) (get_or-set_other targets edge.from block new d ne) ∙ are.at block d less
        ∙ sym (targets_push block edges edge ∙ cond-false (edge.from == block) (targets_from block edges ++ edge.to ∷ []) (targets_from block edges) (ne_eqb edge.from block (λ q. ne (sym q))))
  ];
}

pub directed_more : (forward : Bool) (edges : List Edge) (i : ℕ) (d : Edge) → i < length edges → map (directed forward) (take (i + 1) edges) ≡ map (directed forward) (take i edges) ++ directed forward (get_or edges i d) ∷ []
directed_more forward edges i d lt = ap (map (directed forward)) (take_more edges i d lt) ∙ map-append (directed forward) (take i edges) (get_or edges i d ∷ [])

-- a directed edge leads from one of the blocks to one of them
pub directed_ends : (forward : Bool) (blocks : ℕ) (edges : List Edge) (i : ℕ) (d : Edge) → AreWithin blocks edges → i < length edges → ((directed forward (get_or edges i d)).from < blocks) × ((directed forward (get_or edges i d)).to < blocks)
directed_ends true blocks edges i d within lt = within i d lt
directed_ends false blocks edges i d within lt = let both = within i d lt in (both.1, both.0)

pub directed_within : (forward : Bool) (blocks : ℕ) (edges : List Edge) → AreWithin blocks edges → AreWithin blocks (map (directed forward) edges)
directed_within true blocks edges within = All-map (λ (e : Edge). (e.from < blocks) × (e.to < blocks)) (directed true) edges within
directed_within false blocks edges within = All-map (λ (e : Edge). (e.from < blocks) × (e.to < blocks)) (directed false) edges (λ k d lt. let both = within k d lt in (both.1, both.0))
