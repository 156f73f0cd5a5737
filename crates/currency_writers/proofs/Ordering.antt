-- What is known to write names comes in order, and there are lists for the names that are written.
use Rattle.std.proofs.Common.{◌≡◌, inl, inr, ℕ, ◌+◌, ◌<◌, Some, List, [], ◌∷◌, ◌++◌, length, refl, sym, ap, subst, ◌∙◌, arith}
use Rattle.std.specs.Prelude.{slice_get, min}
use Rattle.std.proofs.lemmas.Option.{none-some}
use Rattle.graph_homes.specs.declared.home.Home.{Home}
use Rattle.graph_core.specs.declared.graph.Graph as declared-graph
use Rattle.graph_core.specs.Graphs.{graph_view}
use Rattle.currency_notes.specs.Homes.{home_in, number_at}
use Rattle.currency_writers.specs.declared.writers.Writer as declared-writer
use Rattle.currency_writers.specs.declared.writers.Writers as declared-writers
use Rattle.currency_writers.specs.declared.writers.Written as declared-written
use Rattle.currency_writers.specs.Order.{IsNoLater, rank_of}
use Rattle.currency_writers.specs.Writers.{AreHomed, AreMore, AreNoLater, HasHome, HasLists, HaveLists, IsWriter, Writes, home_key}
use Rattle.currency_writers.proofs.Indexed.{get_cases}
use Rattle.currency_writers.proofs.Order.{no_later_on, no_later_same}

-- what writes names comes no later than what has these numbers
abbrev pub AreAllNoLater : List declared-written.Written → (rank : List ℕ) → Type 0
AreAllNoLater all rank = (k : ℕ) (z : declared-written.Written) → slice_get all k ≡ Some z → IsNoLater (rank_of z.writer) rank

-- nothing is known at first
pub none_later : (all : List declared-written.Written) (rank : List ℕ) → all ≡ [] → AreAllNoLater all rank
none_later all rank none k z at = absurd (none-some z (sym (ap (λ (l : List declared-written.Written). slice_get l k) none) ∙ at))

-- one more that comes no later
pub later_push : (old new : List declared-written.Written) (one : declared-written.Written) (rank : List ℕ) → new ≡ old ++ (one ∷ []) → IsNoLater (rank_of one.writer) rank → AreAllNoLater old rank → AreAllNoLater new rank
later_push old new one rank all here before k z at =
    elim (get_cases old one z k (subst (λ (l : List declared-written.Written). slice_get l k ≡ Some z) all at)) [
      | inl e ↦ before k z e
      | inr e ↦ subst (λ (w : declared-written.Written). IsNoLater (rank_of w.writer) rank) e.1 here
    ]

-- no later than what comes later yet
pub later_on : (v : declared-writers.Writers) (rank other : List ℕ) → IsNoLater rank other → AreNoLater v rank → AreNoLater v other
later_on v rank other le before k z at = no_later_on (rank_of z.writer) rank other (before k z at) le

-- the next parameter, and the blocks behind all of them
pub parameter_next : (v : declared-writers.Writers) (k : ℕ) → AreNoLater v (0 ∷ k ∷ []) → AreNoLater v (0 ∷ (k + 1) ∷ [])
parameter_next v k = later_on v (0 ∷ k ∷ []) (0 ∷ (k + 1) ∷ []) (inr (refl, inl (omega arith)))

pub blocks_behind : (v : declared-writers.Writers) (k : ℕ) → AreNoLater v (0 ∷ k ∷ []) → AreNoLater v (1 ∷ 0 ∷ 0 ∷ [])
blocks_behind v k = later_on v (0 ∷ k ∷ []) (1 ∷ 0 ∷ 0 ∷ []) (inl (omega arith))

-- the next instruction, and the next block
pub instruction_next : (v : declared-writers.Writers) (n k : ℕ) → AreNoLater v (1 ∷ n ∷ k ∷ []) → AreNoLater v (1 ∷ n ∷ (k + 1) ∷ [])
instruction_next v n k = later_on v (1 ∷ n ∷ k ∷ []) (1 ∷ n ∷ (k + 1) ∷ []) (inr (refl, inr (refl, inl (omega arith))))

pub block_next : (v : declared-writers.Writers) (n k : ℕ) → AreNoLater v (1 ∷ n ∷ k ∷ []) → AreNoLater v (1 ∷ (n + 1) ∷ 0 ∷ [])
block_next v n k = later_on v (1 ∷ n ∷ k ∷ []) (1 ∷ (n + 1) ∷ 0 ∷ []) (inr (refl, inl (omega arith)))

-- there are as many lists as before
pub lists_on : (old new : declared-writers.Writers) → AreMore old new → HaveLists old → HaveLists new
lists_on old new more lists p x w writes =
    (let was : IsWriter old.function (graph_view old.graph.now) p x w =
    subst (λ (g : declared-graph.Graph). IsWriter old.function (graph_view g) p x w) more.graph (subst (λ n. IsWriter n (graph_view new.graph.now) p x w) more.function writes) in
    let has : HasLists old x = lists p x w was in
    let key : home_key new x ≡ home_key old x = ap (λ (h : List Home). number_at (home_in h x)) more.homes in
    record {
      by_home = subst (λ k. k < length new.by_home.items) (sym key) (subst (λ n. home_key old x < n) (sym more.by_home) has.by_home);
      by_name = subst (λ n. x < n) (sym more.by_name) has.by_name;
    })

-- a list for each home and each name
pub lists_first : (v : declared-writers.Writers) → AreHomed v.function (graph_view v.graph.now) v.homes.now → length v.by_home.items ≡ min (length v.homes.now + 32) 18446744073709551615 → length v.by_name.items ≡ length v.homes.now → HaveLists v
lists_first v homed homes names p x w writes =
    (let has : HasHome v.homes.now x = homed p x w writes in
    record { by_home = subst (λ n. home_key v x < n) (sym homes) has.numbered; by_name = subst (λ n. x < n) (sym names) has.named })
