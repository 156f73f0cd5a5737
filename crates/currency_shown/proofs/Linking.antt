-- How blocks are linked in chains, each in one.
use mathlib.Core.Bool.{true≢false}
use Rattle.std.proofs.Common.{◌≡◌, ◌≢◌, inl, inr, ℕ, zero, suc, ◌+◌, ◌<◌, ◌≤◌, true, false, Bool, Option, Some, None, List, [], ◌∷◌, ◌++◌, length, get_or, replicate, refl, sym, ap, subst, ◌∙◌, arith}
use Rattle.std.specs.Prelude.{slice_get, slice_set, ◌⊎◌}
use Rattle.std.specs.Option.{option_map_or}
use Rattle.std.specs.Global.{Vec}
use Rattle.std.proofs.lemmas.Bool.Decides.{eqb_tells}
use Rattle.std.proofs.lemmas.List.{get_or-set_same, get_or-set_other, length-replicate, length-set}
use Rattle.std.proofs.lemmas.Option.{none-some, same_Some, slice_get_within}
use Rattle.graph_core.specs.declared.block.Block as declared-block
use Rattle.graph_core.specs.Graphs.{End, Jump, end_view}
use Rattle.graph_core.specs.Paths.{Among, front, behind}
use Rattle.graph_core.specs.Uses.{targets_of}
use Rattle.currency_notes.proofs.Lists.{among_at, among_one, among_parts, get_among, set_cases}
use Rattle.currency_shown.specs.declared.chains.Chains as declared-chains
use Rattle.currency_shown.specs.declared.chains.Links as declared-links
use Rattle.currency_shown.specs.Chains.{block_before, last_in, name_at, AreAllOnce, AreBegun, AreChains, AreEdgesNext, AreKept, AreLinks, AreStarts, IsChain, IsCourse, IsFollowed, IsFollowing, IsLinked, IsNext, IsStruck, LeadsTo, Starts, StartsIf}
use Rattle.currency_shown.proofs.Chaining.{last_push, linked_push}

-- what is told of a block stands in the list
pub named : (names : List (Option ℕ)) (l m : ℕ) → name_at names l ≡ Some m → slice_get names l ≡ Some (Some m)
named names l m e = at_found (slice_get names l) refl
  where
    at_found : (o : Option (Option ℕ)) → slice_get names l ≡ o → slice_get names l ≡ Some (Some m)
    at_found None q = absurd (none-some m (sym (ap (λ (p : Option (Option ℕ)). option_map_or (λ (o : Option ℕ). o) p None) q) ∙ e))
    at_found (Some o) q = q ∙ ap Some (sym (ap (λ (p : Option (Option ℕ)). option_map_or (λ (o : Option ℕ). o) p None) q) ∙ e)

pub name_there : (names : List (Option ℕ)) (l : ℕ) (o : Option ℕ) → slice_get names l ≡ Some o → name_at names l ≡ o
name_there names l o q = ap (λ (p : Option (Option ℕ)). option_map_or (λ (n : Option ℕ). n) p None) q

-- what is told behind a store
pub name_cases : (names : List (Option ℕ)) (i : ℕ) (o : Option ℕ) (l m : ℕ) → name_at (slice_set names i o) l ≡ Some m → ((l ≡ i) × (o ≡ Some m)) ⊎ ((l ≢ i) × (name_at names l ≡ Some m))
name_cases names i o l m e = elim (set_cases names i o l (Some m) (named (slice_set names i o) l m e)) [
  | inl f ↦ inl (f.0, sym f.1)
  | inr f ↦ inr (f.0, name_there names l (Some m) f.1)
]

-- where nothing is told behind a store
pub name_none : (names : List (Option ℕ)) (i : ℕ) (m : ℕ) → name_at (slice_set names i None) i ≡ Some m → ⊥
name_none names i m e = elim (name_cases names i None i m e) [ inl f ↦ none-some m f.1 | inr f ↦ f.0 refl ]

pub none_at : (names : List (Option ℕ)) (i : ℕ) → name_at (slice_set names i None) i ≡ None
none_at names i = at_found (name_at (slice_set names i None) i) refl
  where
    at_found : (o : Option ℕ) → name_at (slice_set names i None) i ≡ o → name_at (slice_set names i None) i ≡ None
    at_found None q = q
    at_found (Some m) q = absurd (name_none names i m q)

pub struck_same : (names : List (Option ℕ)) → IsStruck names names
struck_same names = record { size = refl; kept = λ l m e. e }

pub struck_on : (a b c : List (Option ℕ)) → IsStruck a b → IsStruck b c → IsStruck a c
struck_on a b c one two = record { size = two.size ∙ one.size; kept = λ l m e. one.kept l m (two.kept l m e) }

pub struck_put : (names : List (Option ℕ)) (i : ℕ) → IsStruck names (slice_set names i None)
struck_put names i = record {
  size = length-set names i None;
  kept = λ l m e. elim (name_cases names i None l m e) [ inl f ↦ absurd (none-some m f.1) | inr f ↦ f.1 ];
}

-- what is struck stays so
pub edges_struck : (old new : List (Option ℕ)) (positions : List ℕ) (n : ℕ) (e : End) → IsStruck old new → AreEdgesNext old positions n e → AreEdgesNext new positions n e
edges_struck old new positions n e struck each l among m q = each l among m (struck.kept l m q)

-- nothing stands before a block before which nothing did
pub still_none : (old new : List (Option ℕ)) (l : ℕ) → IsStruck old new → name_at old l ≡ None → name_at new l ≡ None
still_none old new l struck none = at_found (name_at new l) refl
  where
    at_found : (o : Option ℕ) → name_at new l ≡ o → name_at new l ≡ None
    at_found None q = q
    at_found (Some m) q = absurd (none-some m (sym none ∙ struck.kept l m q))

module _ (blocks : List declared-block.Block) (links : declared-links.Links) (all : AreLinks blocks links) where
  -- nothing else leads to a block that stands directly behind another one
  pub followed : (n next : ℕ) (b : declared-block.Block) → slice_get blocks n ≡ Some b → end_view b.end ≡ Jump next → block_before links next ≡ Some n → IsFollowed blocks links n next
  followed n next b is jump before =
      let edge = all.edges n b is next (subst (λ (e : End). Among next (targets_of e)) (sym jump) front) n before in
      record { leads = (b, is, jump); before = before; later = edge.1.later; within = edge.1.within }

  -- where no block stands directly behind one, it leads to blocks that have none before them
  pub none_before : (n : ℕ) (b : declared-block.Block) → slice_get blocks n ≡ Some b → ((next : ℕ) → end_view b.end ≡ Jump next → block_before links next ≡ Some n → ⊥) → (l : ℕ) → Among l (targets_of (end_view b.end)) → block_before links l ≡ None
  none_before n b is none l among = at_found (block_before links l) refl
    where
      at_found : (o : Option ℕ) → block_before links l ≡ o → block_before links l ≡ None
      at_found None q = q
      at_found (Some m) q = (let edge = all.edges n b is l among m q in absurd (none l edge.1.jump (q ∙ ap Some edge.0)))

module _ (blocks : List declared-block.Block) (links : declared-links.Links) (all : AreLinks blocks links) (n : ℕ) (d : declared-block.Block) (at : slice_get blocks n ≡ Some d) where
  -- the block of a number
  one_end : (b : declared-block.Block) → slice_get blocks n ≡ Some b → end_view b.end ≡ end_view d.end
  one_end b is = ap (λ (z : declared-block.Block). end_view z.end) (same_Some b d (sym is ∙ at))

  -- a block that leads to one alone that does not stand directly behind it
  pub none_other : (next : ℕ) → end_view d.end ≡ Jump next → (block_before links next ≡ Some n → ⊥) → (b : declared-block.Block) → slice_get blocks n ≡ Some b → (l : ℕ) → Among l (targets_of (end_view b.end)) → block_before links l ≡ None
  none_other next jump apart b is l among = none_before blocks links all n b is (λ k leads before. apart (subst (λ z. block_before links z ≡ Some n) (same_target (sym leads ∙ one_end b is ∙ jump)) before)) l among
    where
      same_target : {k m : ℕ} → Jump k ≡ Jump m → k ≡ m
      same_target e = cc

  -- a block that leads to no one alone
  pub none_jump : ((next : ℕ) → end_view d.end ≡ Jump next → ⊥) → (b : declared-block.Block) → slice_get blocks n ≡ Some b → (l : ℕ) → Among l (targets_of (end_view b.end)) → block_before links l ≡ None
  none_jump apart b is l among = none_before blocks links all n b is (λ k leads before. apart k (sym (one_end b is) ∙ leads)) l among

module _ (links : declared-links.Links) where
  -- one block more
  pub following_push : (chain : List ℕ) (next : ℕ) → IsFollowing links chain → ((l : ℕ) → last_in chain ≡ Some l → block_before links next ≡ Some l) → IsFollowing links (chain ++ (next ∷ []))
  following_push [] next following last = tt
  following_push (l ∷ []) next following last = (last l refl, tt)
  following_push (l ∷ k ∷ more) next following last = (following.0, following_push (k ∷ more) next following.1 last)

  -- each block of a chain behind the first has the one before it directly before it
  before_at : (chain : List ℕ) (i n : ℕ) → IsFollowing links chain → slice_get chain (suc i) ≡ Some n → (l : ℕ) × (slice_get chain i ≡ Some l) × (block_before links n ≡ Some l)
  before_at [] i n following at = absurd (none-some n at)
  before_at (l ∷ []) i n following at = absurd (none-some n at)
  before_at (l ∷ k ∷ more) zero n following at = (l, refl, ap (λ z. block_before links z) (sym (same_Some k n at)) ∙ following.0)
  before_at (l ∷ k ∷ more) (suc i) n following at = before_at (k ∷ more) i n following.1 at

  -- where two chains meet they begin with one block, and it stands at one place of both
  pub meet : (c d : List ℕ) → IsFollowing links c → IsFollowing links d → ((n : ℕ) → slice_get c 0 ≡ Some n → block_before links n ≡ None) → ((n : ℕ) → slice_get d 0 ≡ Some n → block_before links n ≡ None)
      → (i j n : ℕ) → slice_get c i ≡ Some n → slice_get d j ≡ Some n → (i ≡ j) × ((k : ℕ) × (slice_get c 0 ≡ Some k) × (slice_get d 0 ≡ Some k))
  meet c d fc fd sc sd zero zero n a b = (refl, (n, a, b))
  meet c d fc fd sc sd zero (suc j) n a b = (let l = before_at d j n fd b in absurd (none-some l.0 (sym (sc n a) ∙ l.2)))
  meet c d fc fd sc sd (suc i) zero n a b = (let l = before_at c i n fc a in absurd (none-some l.0 (sym (sd n b) ∙ l.2)))
  meet c d fc fd sc sd (suc i) (suc j) n a b =
      let l = before_at c i n fc a in
      let k = before_at d j n fd b in
      let same : k.0 ≡ l.0 = same_Some k.0 l.0 (sym k.2 ∙ l.2) in
      let r = meet c d fc fd sc sd i j l.0 l.1 (k.1 ∙ ap Some same) in
      (ap suc r.0, r.1)

-- one block more of a chain
module _ (blocks : List declared-block.Block) (links : declared-links.Links) (first last next : ℕ) (chain all : List ℕ) (is : all ≡ chain ++ (next ∷ [])) (at_last : last_in chain ≡ Some last) where
  pub linked_on : IsLinked blocks chain → LeadsTo blocks last next → IsLinked blocks all
  linked_on linked leads = subst (λ (l : List ℕ). IsLinked blocks l) (sym is) (linked_push blocks chain next linked (λ k q. subst (λ z. LeadsTo blocks z next) (same_Some last k (sym at_last ∙ q)) leads))

  pub following_on : IsFollowing links chain → block_before links next ≡ Some last → IsFollowing links all
  following_on following before = subst (λ (l : List ℕ). IsFollowing links l) (sym is) (following_push links chain next following (λ k q. before ∙ sym at_last ∙ q))

  pub within_on : ((n : ℕ) → Among n chain → n < length blocks) → next < length blocks → (n : ℕ) → Among n all → n < length blocks
  within_on within lt n among = elim (among_parts chain (next ∷ []) (subst (λ (l : List ℕ). Among n l) is among)) [ inl f ↦ within n f | inr f ↦ subst (λ z. z < length blocks) (sym (among_one f)) lt ]

  pub last_on : last_in all ≡ Some next
  last_on = ap last_in is ∙ last_push chain next

  pub begins_on : (more : List ℕ) → chain ≡ first ∷ more → all ≡ first ∷ (more ++ (next ∷ []))
  begins_on more begins = is ∙ ap (λ (l : List ℕ). l ++ (next ∷ [])) begins

-- where a chain ends
pub chain_ends : (blocks : List declared-block.Block) (links : declared-links.Links) (chain : List ℕ) (last : ℕ) → last_in chain ≡ Some last
    → ((b : declared-block.Block) → slice_get blocks last ≡ Some b → (l : ℕ) → Among l (targets_of (end_view b.end)) → block_before links l ≡ None)
    → (n : ℕ) → last_in chain ≡ Some n → (b : declared-block.Block) → slice_get blocks n ≡ Some b → (l : ℕ) → Among l (targets_of (end_view b.end)) → block_before links l ≡ None
chain_ends blocks links chain last at none n is b there l among = none b (ap (λ k. slice_get blocks k) (same_Some last n (sym at ∙ is)) ∙ there) l among

-- a block that stands directly behind another one is one of the function
pub followed_within : (blocks : List declared-block.Block) (links : declared-links.Links) (n next : ℕ) → AreLinks blocks links → block_before links next ≡ Some n → next < length blocks
followed_within blocks links n next all before = subst (λ k. next < k) all.size (slice_get_within links.before.items next (Some n) (named links.before.items next n before))

-- ---- The chains

-- what stands in a list behind one more
push_at : {A : Type 0} (xs : List A) (a : A) (k : ℕ) (b : A) → slice_get (xs ++ (a ∷ [])) k ≡ Some b → (slice_get xs k ≡ Some b) ⊎ ((k ≡ length xs) × (a ≡ b))
push_at [] a zero b e = inr (refl, same_Some a b e)
push_at [] a (suc k) b e = absurd (none-some b e)
push_at (x ∷ xs) a zero b e = inl e
push_at (x ∷ xs) a (suc k) b e = elim (push_at xs a k b e) [ inl f ↦ inl f | inr f ↦ inr ((let q = f.0 in omega (arith, q)), f.1) ]

push_kept : {A : Type 0} (xs : List A) (a : A) (k : ℕ) (b : A) → slice_get xs k ≡ Some b → slice_get (xs ++ (a ∷ [])) k ≡ Some b
push_kept [] a k b e = absurd (none-some b e)
push_kept (x ∷ xs) a zero b e = e
push_kept (x ∷ xs) a (suc k) b e = push_kept xs a k b e

push_last : {A : Type 0} (xs : List A) (a : A) → slice_get (xs ++ (a ∷ [])) (length xs) ≡ Some a
push_last [] a = refl
push_last (x ∷ xs) a = push_last xs a

pub starts_kept : (old : List (Vec ℕ)) (c : Vec ℕ) (new : List (Vec ℕ)) (l : ℕ) → new ≡ old ++ (c ∷ []) → Starts old l → Starts new l
starts_kept old c new l is s = record { index = s.index; chain = s.chain; more = s.more; is = subst (λ (all : List (Vec ℕ)). slice_get all s.index ≡ Some s.chain) (sym is) (push_kept old c s.index s.chain s.is); begins = s.begins }

-- a chain that was pushed begins with its first block
pub starts_pushed : (blocks : List declared-block.Block) (links : declared-links.Links) (old : List (Vec ℕ)) (c : Vec ℕ) (new : List (Vec ℕ)) (first : ℕ) → IsChain blocks links first c.items → new ≡ old ++ (c ∷ []) → Starts new first
starts_pushed blocks links old c new first chain is = record { index = length old; chain = c; more = chain.more; is = subst (λ (all : List (Vec ℕ)). slice_get all (length old) ≡ Some c) (sym is) (push_last old c); begins = chain.begins }

-- one chain more
module _ (blocks : List declared-block.Block) (links : declared-links.Links) (old new : declared-chains.Chains) (first : ℕ) (c : Vec ℕ) (lt : first < length blocks) (fresh : get_or old.begun.items first false ≡ false) (chain : IsChain blocks links first c.items)
    (begun : new.begun.items ≡ slice_set old.begun.items first true) (grown : new.chains.items ≡ old.chains.items ++ (c ∷ [])) (before : AreBegun blocks links old) where
  small : first < length old.begun.items
  small = subst (λ k. first < k) (sym before.size) lt

  begun_here : get_or new.begun.items first false ≡ true
  begun_here = ap (λ xs. get_or xs first false) begun ∙ get_or-set_same old.begun.items first true false small

  begun_other : (l : ℕ) → l ≢ first → get_or new.begun.items l false ≡ get_or old.begun.items l false
  begun_other l other = ap (λ xs. get_or xs l false) begun ∙ get_or-set_other old.begun.items first l true false other

  kept_more : AreKept old new
  kept_more l s = starts_kept old.chains.items c new.chains.items l grown s

  starts_more : Starts new.chains.items first
  starts_more = starts_pushed blocks links old.chains.items c new.chains.items first chain grown

  -- a chain is an old one, or the new one
  cases : (x : ℕ) (d : Vec ℕ) → slice_get new.chains.items x ≡ Some d → (slice_get old.chains.items x ≡ Some d) ⊎ ((x ≡ length old.chains.items) × (c ≡ d))
  cases x d at = push_at old.chains.items c x d (subst (λ (all : List (Vec ℕ)). slice_get all x ≡ Some d) grown at)

  -- the new one begins with its first block alone
  first_alone : (l : ℕ) (more : List ℕ) → c.items ≡ l ∷ more → l ≡ first
  first_alone l more begins = (let e : first ∷ chain.more ≡ l ∷ more = sym chain.begins ∙ begins in ap (λ xs. get_or xs 0 l) (sym e))

  start_cases : (l : ℕ) (s : Starts new.chains.items l) → ((t : Starts old.chains.items l) × (t.index ≡ s.index)) ⊎ ((s.index ≡ length old.chains.items) × (l ≡ first))
  start_cases l s = elim (cases s.index s.chain s.is) [
    | inl f ↦ inl (record { index = s.index; chain = s.chain; more = s.more; is = f; begins = s.begins }, refl)
    | inr f ↦ inr (f.0, first_alone l s.more (ap (λ (v : Vec ℕ). v.items) f.1 ∙ s.begins))
  ]

  -- no old chain begins with it
  not_old : (l : ℕ) → Starts old.chains.items l → l ≡ first → ⊥
  not_old l s e = true≢false (sym (before.told l s) ∙ ap (λ k. get_or old.begun.items k false) e ∙ fresh)

  pub begun_more : AreBegun blocks links new
  begun_more = record {
    size = ap (λ xs. length xs) begun ∙ length-set old.begun.items first true ∙ before.size;
    chain = λ x d at. elim (cases x d at) [ inl f ↦ before.chain x d f | inr f ↦ (first, subst (λ (v : Vec ℕ). IsChain blocks links first v.items) f.1 chain) ];
    begun = λ l e. elim (eqb_tells l first) [
      | inl f ↦ subst (λ k. Starts new.chains.items k) (sym f.1) starts_more
      | inr f ↦ kept_more l (before.begun l (sym (begun_other l f.1) ∙ e))
    ];
    told = λ l s. elim (start_cases l s) [
      | inl f ↦ elim (eqb_tells l first) [ inl g ↦ absurd (not_old l f.0 g.1) | inr g ↦ begun_other l g.1 ∙ before.told l f.0 ]
      | inr f ↦ ap (λ k. get_or new.begun.items k false) f.1 ∙ begun_here
    ];
    apart = λ l one other. elim (start_cases l one) [
      | inl f ↦ elim (start_cases l other) [ inl g ↦ sym f.1 ∙ before.apart l f.0 g.0 ∙ g.1 | inr g ↦ absurd (not_old l f.0 g.1) ]
      | inr f ↦ elim (start_cases l other) [ inl g ↦ absurd (not_old l g.0 f.1) | inr g ↦ f.0 ∙ sym g.0 ]
    ];
  }

-- of no block anything was said
unsaid : (count l : ℕ) → get_or (replicate count false) l false ≡ false
unsaid zero l = refl
unsaid (suc count) zero = refl
unsaid (suc count) (suc l) = unsaid count l

-- no chain was begun
pub begun_none : (blocks : List declared-block.Block) (links : declared-links.Links) (all : declared-chains.Chains) → all.begun.items ≡ replicate (length blocks) false → all.chains.items ≡ [] → AreBegun blocks links all
begun_none blocks links all filled none = record {
  size = ap (λ xs. length xs) filled ∙ length-replicate (length blocks) false;
  chain = λ x c at. absurd (nothing x c at);
  begun = λ l e. absurd (true≢false (sym e ∙ ap (λ xs. get_or xs l false) filled ∙ unsaid (length blocks) l));
  told = λ l s. absurd (nothing s.index s.chain s.is);
  apart = λ l one other. absurd (nothing one.index one.chain one.is);
}
  where
    nothing : (x : ℕ) (c : Vec ℕ) → slice_get all.chains.items x ≡ Some c → ⊥
    nothing x c at = none-some c (sym (ap (λ (l : List (Vec ℕ)). slice_get l x) none) ∙ at)

-- the first of a list stands at its beginning
first_at : (chain more : List ℕ) (first n : ℕ) → chain ≡ first ∷ more → slice_get chain 0 ≡ Some n → first ≡ n
first_at chain more first n begins at = same_Some first n (sym (ap (λ (l : List ℕ). slice_get l 0) begins) ∙ at)

starts_at : (chains : List (Vec ℕ)) (x : ℕ) (c : Vec ℕ) (k : ℕ) → slice_get chains x ≡ Some c → slice_get c.items 0 ≡ Some k → (s : Starts chains k) × (s.index ≡ x)
starts_at chains x c k at first = (record { index = x; chain = c; more = (more_of c.items first).0; is = at; begins = (more_of c.items first).1 }, refl)
  where
    more_of : (l : List ℕ) → slice_get l 0 ≡ Some k → (more : List ℕ) × (l ≡ k ∷ more)
    more_of [] e = absurd (none-some k e)
    more_of (n ∷ more) e = (more, ap (λ z. z ∷ more) (same_Some n k e))

-- where a chain was begun with each block that asks for it, all are chains of the blocks
pub chains_all : (blocks : List declared-block.Block) (links : declared-links.Links) (all : declared-chains.Chains) → AreLinks blocks links → AreBegun blocks links all → StartsIf blocks links all 0
    → ((n : ℕ) (b : declared-block.Block) → slice_get blocks n ≡ Some b → (l : ℕ) → Among l (targets_of (end_view b.end)) → StartsIf blocks links all l) → AreChains blocks all.chains.items
chains_all blocks links all linked begun first each = record {
  linked = λ c among. (chain_of c among).1.linked;
  some = λ c among. (let k = chain_of c among in subst (λ n. 0 < n) (sym (ap (λ (l : List ℕ). length l) k.1.begins)) (omega arith));
  within = λ c n among there. (chain_of c among).1.within n there;
  first = λ lt. first lt linked.first;
  next = λ c n b l among last is target lt. each n b is l target lt ((chain_of c among).1.ends n last b is l target);
  apart = λ x y i j n c d at_x at_y at_i at_j.
      (let one = begun.chain x c at_x in
      let other = begun.chain y d at_y in
      let met = meet links c.items d.items one.1.following other.1.following
      (λ k e. ap (λ z. block_before links z) (sym (first_at c.items one.1.more one.0 k one.1.begins e)) ∙ one.1.start)
      (λ k e. ap (λ z. block_before links z) (sym (first_at d.items other.1.more other.0 k other.1.begins e)) ∙ other.1.start) i j n at_i at_j in
      let a = starts_at all.chains.items x c met.1.0 at_x met.1.1 in
      let b = starts_at all.chains.items y d met.1.0 at_y met.1.2 in
      (sym a.1 ∙ begun.apart met.1.0 a.0 b.0 ∙ b.1, met.0));
}
  where
    chain_of : (c : Vec ℕ) → Among c all.chains.items → (first : ℕ) × IsChain blocks links first c.items
    chain_of c among = (let k = among_at all.chains.items among in begun.chain k.0 c k.1)

-- ---- The course of a chain

-- what is left of a chain behind a block
pub course_from : (blocks : List declared-block.Block) (chains : List (Vec ℕ)) (chain : List ℕ) → IsLinked blocks chain → ((n : ℕ) → Among n chain → n < length blocks)
    → ((n : ℕ) (b : declared-block.Block) → last_in chain ≡ Some n → slice_get blocks n ≡ Some b → AreStarts blocks chains (end_view b.end)) → (first : ℕ) (more : List ℕ) → chain ≡ first ∷ more → IsCourse blocks chains (Jump first) chain
course_from blocks chains [] linked within ends first more begins = cc
course_from blocks chains (n ∷ []) linked within ends first more begins =
    let b = block_of blocks n (within n front) in
    (ap Jump (ap (λ (l : List ℕ). get_or l 0 0) (sym begins)), (b.0, b.1, ends n b.0 refl b.1))
  where
    block_of : (bs : List declared-block.Block) (k : ℕ) → k < length bs → (b : declared-block.Block) × (slice_get bs k ≡ Some b)
    block_of [] k lt = absurd (omega (arith, lt))
    block_of (b ∷ bs) zero lt = (b, refl)
    block_of (b ∷ bs) (suc k) lt = block_of bs k (omega (arith, lt))
course_from blocks chains (n ∷ next ∷ more) linked within ends first rest begins =
    let leads = linked.0 in
    let later = course_from blocks chains (next ∷ more) linked.1 (λ k among. within k (behind among)) ends next more refl in
    (ap Jump (ap (λ (l : List ℕ). get_or l 0 0) (sym begins)), (leads.0, leads.1, subst (λ (e : End). IsCourse blocks chains e (next ∷ more)) (sym leads.2) later))

-- no block stands twice in a chain
pub chain_once : (blocks : List declared-block.Block) (chains : List (Vec ℕ)) → AreChains blocks chains → (x : ℕ) (c : Vec ℕ) (chain : List ℕ) → slice_get chains x ≡ Some c → chain ≡ c.items → AreAllOnce chain
chain_once blocks chains all x c chain at same i j n one other =
    (all.apart x x i j n c c at at (ap (λ (l : List ℕ). slice_get l i) (sym same) ∙ one) (ap (λ (l : List ℕ). slice_get l j) (sym same) ∙ other)).1

-- the course of a chain
pub chain_course : (blocks : List declared-block.Block) (chains : List (Vec ℕ)) → AreChains blocks chains → (x : ℕ) (c : Vec ℕ) (chain : List ℕ) → x < length chains → c ≡ get_or chains x c → chain ≡ c.items → IsCourse blocks chains (Jump (get_or chain 0 0)) chain
chain_course blocks chains all x c chain lt is same =
    let among : Among c chains = get_among chains x c lt is in
    let first = first_of c.items (all.some c among) in
    let whole : IsCourse blocks chains (Jump (get_or c.items 0 0)) c.items = course_from blocks chains c.items (all.linked c among) (λ n there. all.within c n among there) (λ n b last at l target small. all.next c n b l among last at target small) (get_or c.items 0 0) first.0 first.1 in
    subst (λ (l : List ℕ). IsCourse blocks chains (Jump (get_or l 0 0)) l) (sym same) whole
  where
    first_of : (l : List ℕ) → 0 < length l → (more : List ℕ) × (l ≡ get_or l 0 0 ∷ more)
    first_of [] small = absurd (omega (arith, small))
    first_of (n ∷ more) small = (more, refl)
