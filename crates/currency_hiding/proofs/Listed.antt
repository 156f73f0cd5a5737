-- Changes by their numbers.
use Rattle.std.proofs.Common.{◌≡◌, inl, inr, ℕ, ◌+◌, ◌-◌, ◌<◌, ◌≤◌, Option, Some, None, List, [], ◌∷◌, ◌++◌, length, get_or, take, refl, sym, ap, subst, ◌∙◌, arith}
use Rattle.std.specs.Prelude.{slice_get, option_map, All, AllPairs, Contains, IfSome, MatchOption, ◌⊎◌}
use Rattle.std.proofs.lemmas.List.Elements.{All-contains, All-more, All-push, All-weaker, Contains-append_left, Contains-push}
use Rattle.std.proofs.lemmas.Option.{none-some, same_Some, slice_get-map}
use Rattle.debug_records.specs.declared.change.Change.{Change}
use Rattle.debug_records.specs.declared.change.Kind.{Kind}
use Rattle.graph_core.specs.Graphs.{Logged, logged}
use Rattle.graph_core.specs.Paths.{Among}
use Rattle.currency_notes.proofs.Lists.{among_at, take_whole}
use Rattle.currency_writers.specs.Lists.{entries_of}
use Rattle.currency_hiding.specs.declared.changes.Changes as declared-changes
use Rattle.currency_hiding.specs.Changes.{AreFound, AreListed, IsLastSharing, IsListed, IsNotBefore, IsNumbered, IsSharing, hides_as, log_of}

-- a change that is listed has its number in the log
pub numbered : (c : declared-changes.Changes) (number : ℕ) (d : Change) → IsListed c number d → IsNumbered (log_of c) number (logged d)
numbered c number d is = record { some = is.some; is = slice_get-map logged c.all.now (number - 1) ∙ ap (λ o. option_map logged o) is.is }

-- the change of a number of the log is listed
pub listed_of : (c : declared-changes.Changes) (number : ℕ) (one : Logged) → IsNumbered (log_of c) number one → (d : Change) × IsListed c number d × (logged d ≡ one)
listed_of c number one is = at_change (slice_get c.all.now (number - 1)) refl
  where
    at_change : (o : Option Change) → slice_get c.all.now (number - 1) ≡ o → (d : Change) × IsListed c number d × (logged d ≡ one)
    at_change None q = absurd (none-some one (sym (slice_get-map logged c.all.now (number - 1) ∙ ap (λ o. option_map logged o) q) ∙ is.is))
    at_change (Some d) q = (d, record { some = is.some; is = q }, same_Some (logged d) one (sym (slice_get-map logged c.all.now (number - 1) ∙ ap (λ o. option_map logged o) q) ∙ is.is))

-- a change of the log is listed
pub listed_by : (c : declared-changes.Changes) (one : Logged) → Among one (log_of c) → (number : ℕ) × (d : Change) × IsListed c number d × (logged d ≡ one)
listed_by c one among = (let at = among_at (log_of c) among in at_change at.0 at.1 (slice_get c.all.now at.0) refl)
  where
    at_change : (k : ℕ) → slice_get (log_of c) k ≡ Some one → (o : Option Change) → slice_get c.all.now k ≡ o → (number : ℕ) × (d : Change) × IsListed c number d × (logged d ≡ one)
    at_change k e None q = absurd (none-some one (sym (slice_get-map logged c.all.now k ∙ ap (λ o. option_map logged o) q) ∙ e))
    at_change k e (Some d) q =
        (let number : k + 1 - 1 ≡ k = omega arith in
        (k + 1, d, record { some = omega arith; is = ap (λ n. slice_get c.all.now n) number ∙ q }, same_Some (logged d) one (sym (slice_get-map logged c.all.now k ∙ ap (λ o. option_map logged o) q) ∙ e)))

-- a change has the number by which it is listed
pub own_number : (c : declared-changes.Changes) (number : ℕ) (d : Change) → AreListed c → IsListed c number d → d.number ≡ number
own_number c number d all is = (let e = all.numbers (number - 1) d is.is in let some = is.some in omega (arith, e, some))

-- a change that is listed is in the list of its variable
pub in_list : (c : declared-changes.Changes) (number : ℕ) (d : Change) (variable : ℕ) → AreListed c → IsListed c number d → d.var.0 ≡ variable → Contains (entries_of c.by_variable variable) number
in_list c number d variable all is of =
    (let some = is.some in
    let same : number - 1 + 1 ≡ number = omega (arith, some) in
    subst (λ n. Contains (entries_of c.by_variable variable) n) same (subst (λ v. Contains (entries_of c.by_variable v) (number - 1 + 1)) of (all.listed (number - 1) d is.is)))

-- what was found in the whole list
pub found_all : (c : declared-changes.Changes) (variable : ℕ) (kind : Kind) (found : List Change) → AreListed c → All (λ (d : Change). IsListed c d.number d × (d.var.0 ≡ variable) × (hides_as d.kind ≡ kind)) found
    → All (λ (n : ℕ). (d : Change) → IsListed c n d → d.var.0 ≡ variable → hides_as d.kind ≡ kind → Contains found d) (entries_of c.by_variable variable) → AllPairs (λ (d e : Change). d.number < e.number) found → AreFound c variable kind found
found_all c variable kind found all each every ordered = record {
  each = each;
  all = λ number d is of same. All-contains (λ (n : ℕ). (d : Change) → IsListed c n d → d.var.0 ≡ variable → hides_as d.kind ≡ kind → Contains found d) (entries_of c.by_variable variable) number every (in_list c number d variable all is of) d is of same;
  ordered = ordered;
}

-- one more number of a list was looked at
pub found_next : (c : declared-changes.Changes) (variable : ℕ) (kind : Kind) (old new : List Change) (all : List ℕ) (k d : ℕ) → k < length all → ((e : Change) → Contains old e → Contains new e)
    → ((e : Change) → IsListed c (get_or all k d) e → e.var.0 ≡ variable → hides_as e.kind ≡ kind → Contains new e)
    → All (λ (n : ℕ). (e : Change) → IsListed c n e → e.var.0 ≡ variable → hides_as e.kind ≡ kind → Contains old e) (take k all)
    → All (λ (n : ℕ). (e : Change) → IsListed c n e → e.var.0 ≡ variable → hides_as e.kind ≡ kind → Contains new e) (take (k + 1) all)
found_next c variable kind old new all k d lt kept here before =
    All-more (λ (n : ℕ). (e : Change) → IsListed c n e → e.var.0 ≡ variable → hides_as e.kind ≡ kind → Contains new e) all k d lt
    (All-weaker (λ (n : ℕ). (e : Change) → IsListed c n e → e.var.0 ≡ variable → hides_as e.kind ≡ kind → Contains old e) (λ (n : ℕ). (e : Change) → IsListed c n e → e.var.0 ≡ variable → hides_as e.kind ≡ kind → Contains new e)
    (λ n f e is of same. kept e (f e is of same)) (take k all) before)
    here

-- a change has its own number
pub by_own : (c : declared-changes.Changes) (number : ℕ) (d : Change) → AreListed c → IsListed c number d → IsListed c d.number d
by_own c number d all is = subst (λ n. IsListed c n d) (sym (own_number c number d all is)) is

-- the change of one more number was found, or there is none
pub found_more : (c : declared-changes.Changes) (variable : ℕ) (kind : Kind) (old new : List Change) (all : List ℕ) (k d : ℕ) (o : Option Change) → AreListed c → k < length all
    → IfSome o (λ (e : Change). IsListed c (get_or all k d) e × (e.var.0 ≡ variable) × (hides_as e.kind ≡ kind))
    → ((e : Change) → IsListed c (get_or all k d) e → e.var.0 ≡ variable → hides_as e.kind ≡ kind → o ≡ Some e) → ((o ≡ None) × (new ≡ old)) ⊎ ((e : Change) × (o ≡ Some e) × (new ≡ old ++ (e ∷ [])))
    → All (λ (e : Change). IsListed c e.number e × (e.var.0 ≡ variable) × (hides_as e.kind ≡ kind)) old
    → All (λ (n : ℕ). (e : Change) → IsListed c n e → e.var.0 ≡ variable → hides_as e.kind ≡ kind → Contains old e) (take k all)
    → All (λ (e : Change). IsListed c e.number e × (e.var.0 ≡ variable) × (hides_as e.kind ≡ kind)) new × All (λ (n : ℕ). (e : Change) → IsListed c n e → e.var.0 ≡ variable → hides_as e.kind ≡ kind → Contains new e) (take (k + 1) all)
found_more c variable kind old new all k d o listed lt some every (inl none) each before = (
  subst (λ (l : List Change). All (λ (e : Change). IsListed c e.number e × (e.var.0 ≡ variable) × (hides_as e.kind ≡ kind)) l) (sym none.1) each,
  found_next c variable kind old new all k d lt (λ e there. subst (λ (l : List Change). Contains l e) (sym none.1) there) (λ e is of same. absurd (none-some e (sym none.0 ∙ every e is of same))) before,
)
found_more c variable kind old new all k d o listed lt some every (inr one) each before = (
  subst (λ (l : List Change). All (λ (e : Change). IsListed c e.number e × (e.var.0 ≡ variable) × (hides_as e.kind ≡ kind)) l) (sym one.2)
      (All-push (λ (e : Change). IsListed c e.number e × (e.var.0 ≡ variable) × (hides_as e.kind ≡ kind)) old one.0 each (let is = subst (λ (p : Option Change). IfSome p (λ (e : Change). IsListed c (get_or all k d) e × (e.var.0 ≡ variable) × (hides_as e.kind ≡ kind))) one.1 some in (by_own c (get_or all k d) one.0 listed is.0, is.1, is.2))),
  found_next c variable kind old new all k d lt (λ e there. subst (λ (l : List Change). Contains l e) (sym one.2) (Contains-append_left old (one.0 ∷ []) e there))
      (λ e is of same. subst (λ (l : List Change). Contains l e) (sym one.2) (subst (λ (z : Change). Contains (old ++ (one.0 ∷ [])) z) (same_Some one.0 e (sym one.1 ∙ every e is of same)) (Contains-push old one.0))) before,
)

-- all numbers of a list were looked at
pub found_done : (c : declared-changes.Changes) (variable : ℕ) (kind : Kind) (found : List Change) (all : List ℕ) (k : ℕ) → AreListed c → length all ≤ k → all ≡ entries_of c.by_variable variable → All (λ (e : Change). IsListed c e.number e × (e.var.0 ≡ variable) × (hides_as e.kind ≡ kind)) found
    → All (λ (n : ℕ). (e : Change) → IsListed c n e → e.var.0 ≡ variable → hides_as e.kind ≡ kind → Contains found e) (take k all) → AllPairs (λ (d e : Change). d.number < e.number) found → AreFound c variable kind found
found_done c variable kind found all k listed le same each before ordered =
    found_all c variable kind found listed each (subst (λ (l : List ℕ). All (λ (n : ℕ). (e : Change) → IsListed c n e → e.var.0 ≡ variable → hides_as e.kind ≡ kind → Contains found e) l) (take_whole all k le ∙ same) before) ordered

pub not_before_on : (n : ℕ) (o p : Option ℕ) → ((m : ℕ) → o ≡ Some m → IsNotBefore m p) → IsNotBefore n o → IsNotBefore n p
not_before_on n o p more is = (let one = more is.last is.is in let below = is.le in let above = one.le in record { last = one.last; is = one.is; le = omega (arith, below, above) })

-- one number more was looked at
pub sharing_next : (c : declared-changes.Changes) (variable : ℕ) (old new : Option ℕ) (all : List ℕ) (k d : ℕ) → k < length all → ((n : ℕ) → old ≡ Some n → IsNotBefore n new) → (IsSharing c variable (get_or all k d) → IsNotBefore (get_or all k d) new) → All (λ (n : ℕ). IsSharing c variable n → IsNotBefore n old) (take k all)
    → All (λ (n : ℕ). IsSharing c variable n → IsNotBefore n new) (take (k + 1) all)
sharing_next c variable old new all k d lt kept here before =
    All-more (λ (n : ℕ). IsSharing c variable n → IsNotBefore n new) all k d lt (All-weaker (λ (n : ℕ). IsSharing c variable n → IsNotBefore n old) (λ (n : ℕ). IsSharing c variable n → IsNotBefore n new) (λ n was is. not_before_on n old new kept (was is)) (take k all) before) here

-- all numbers of a list were looked at
pub sharing_done : (c : declared-changes.Changes) (variable : ℕ) (o : Option ℕ) (all : List ℕ) (k : ℕ) → AreListed c → all ≡ entries_of c.by_variable variable → length all ≤ k → IfSome o (λ n. IsSharing c variable n) → All (λ (n : ℕ). IsSharing c variable n → IsNotBefore n o) (take k all)
    → MatchOption o ((n : ℕ) → IsSharing c variable n → ⊥) (λ n. IsLastSharing c variable n)
sharing_done c variable o all k listed same le is each = at_found o is each_of
  where
    each_of : (n : ℕ) → IsSharing c variable n → IsNotBefore n o
    each_of n sharing =
        All-contains (λ (n : ℕ). IsSharing c variable n → IsNotBefore n o) all n (subst (λ (l : List ℕ). All (λ (n : ℕ). IsSharing c variable n → IsNotBefore n o) l) (take_whole all k le) each)
        (subst (λ (l : List ℕ). Contains l n) (sym same) (in_list c n sharing.change variable listed sharing.is sharing.of)) sharing

    at_found : (p : Option ℕ) → IfSome p (λ n. IsSharing c variable n) → ((n : ℕ) → IsSharing c variable n → IsNotBefore n p) → MatchOption p ((n : ℕ) → IsSharing c variable n → ⊥) (λ n. IsLastSharing c variable n)
    at_found None some every = λ n sharing. (let one = every n sharing in none-some one.last one.is)
    at_found (Some m) some every = record { is = some; last = λ other sharing. (let one = every other sharing in let e = same_Some m one.last one.is in let below = one.le in omega (arith, below, e)) }
