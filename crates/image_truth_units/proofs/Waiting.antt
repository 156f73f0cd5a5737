-- A name is noted, and, where it is a temporary, read only behind a write of it in its place.
use Rattle.std.proofs.Common.{◌≡◌, ℕ, ◌≤◌, ◌<◌, Bool, true, false, Option, Some, None, List, [], ◌∷◌, slice_get, refl, ap, ◌∙◌, arith, ◌==◌}
use Rattle.std.specs.Prelude.{◌||◌, ◌&&◌}
use Rattle.std.specs.List.{list_any}
use Rattle.std.proofs.lemmas.Bool.Decides.{nat_tests}
use Rattle.graph_core.specs.Graphs.{Instruction, Marker, Note, Is, Of, Name, Store, Zero, CopyWords, Call, End, Block}
use Rattle.graph_core.specs.Uses.{reads_of_end, targets_of}
use Rattle.graph_core.specs.Paths.{Among, notes, writes, reads}
use Rattle.graph_build_steps.specs.Drafts.{Made}
use Rattle.graph_build_laws.specs.Points.{AtLabel, StandIn}
use Rattle.graph_build_laws.proofs.Instances.{to_one, to_two, to_none}
use Rattle.image_truth_units.proofs.Rules.{Clear, IsNoting}
use Rattle.image_truth_units.proofs.Standing.{closed_before, closed_at, grown, no_note, writes_target, asked, two_read, some_reads, instruction_reads}

module _ (blocks : List Block) (y : ℕ) (temp : Bool) where
  -- an instruction wants the name to have been written
  abbrev pub wants : Instruction → Bool
  wants i = notes y i || (temp && reads y i)

  -- so does the end of a block
  abbrev pub wants_end : End → Bool
  wants_end e = temp && list_any (λ (z : ℕ). z == y) (reads_of_end e)

  -- Each way from here that comes to what wants the name, before it comes to a marker, writes it first.
  pub data Waits : List Instruction → End → Type 0 where
    marks : {p : ℕ} {rest : List Instruction} {e : End} → Waits (Marker p ∷ rest) e
    wrote : {i : Instruction} {rest : List Instruction} {e : End} → wants i ≡ false → writes y i ≡ true → Waits (i ∷ rest) e
    later : {i : Instruction} {rest : List Instruction} {e : End} → wants i ≡ false → Waits rest e → Waits (i ∷ rest) e
    over : {e : End} → wants_end e ≡ false → ((l : ℕ) → Among l (targets_of e) → (b : Block) → slice_get blocks l ≡ Some b → Waits b.instructions b.end) → Waits [] e

module _ (blocks : List Block) (y : ℕ) (temp : Bool) (scalars : ℕ) (behind : temp ≡ true → scalars ≤ y) (place top : ℕ) (may : ℕ → Type 0) (B : Type 0) where
  abbrev W : List Instruction → End → Type 0
  W rest e = Waits blocks y temp rest e

  -- a name other than this was written
  abbrev pub Other : Option ℕ → Type 0
  Other None = Unit {0}
  Other (Some z) = (z == y) ≡ false

  abbrev pub HasWaits : Option ℕ → Made → Type 0
  HasWaits w m = B → StandIn blocks top m.inner → Other w → W m.ops m.end

  abbrev pub LeadsWait : (label : ℕ) → List Block → Type 0
  LeadsWait l inner = B → StandIn blocks top inner → AtLabel blocks (Waits blocks y temp) l

  abbrev pub AnyStand : List Block → Type 0
  AnyStand inner = Unit {0}

  no_and : (b : Bool) → b && false ≡ false
  no_and true = refl
  no_and false = refl

  quiet_by : (t b : Bool) → (t ≡ true → b ≡ false) → t && b ≡ false
  quiet_by true b h = h refl
  quiet_by false b h = refl

  quiet : (i : Instruction) → notes y i ≡ false → Clear (asked y temp) i → wants blocks y temp i ≡ false
  quiet i off c = ap (λ b. b || (temp && reads y i)) off ∙ quiet_by temp (reads y i) (λ t. instruction_reads y temp t i c)

  -- a name that is asked about is this one
  not_asked : (z : ℕ) → (z == y) ≡ false → asked y temp z ≡ false
  not_asked z e = ap (λ b. temp && b) e ∙ no_and temp

  pub apart : (z : ℕ) → z < scalars → asked y temp z ≡ false
  apart z lt = by temp refl
    where
      far : scalars ≤ y → (z == y) ≡ false
      far le = grind (arith, nat_tests, lt)

      by : (b : Bool) → temp ≡ b → b && (z == y) ≡ false
      by true e = far (behind e)
      by false e = refl

  -- before an instruction that writes a name
  computes : (i : Instruction) (z : ℕ) (rest : List Instruction) (e : End) → notes y i ≡ false → Clear (asked y temp) i → writes y i ≡ (z == y) → ((z == y) ≡ false → W rest e) → W (i ∷ rest) e
  computes i z rest e off c w k = by (z == y) refl
    where
      by : (b : Bool) → (z == y) ≡ b → W (i ∷ rest) e
      by true e = wrote (quiet i off c) (w ∙ e)
      by false e = later (quiet i off c) (k e)

  pub waits_noting : IsNoting scalars place top (asked y temp) may HasWaits LeadsWait AnyStand
  waits_noting = record {
    write = λ i z m comp tgt c k b st free. computes i z m.ops m.end (no_note y i comp) c (writes_target y z i tgt) (λ e. k (not_asked z e) b st e);
    fresh = λ z m le k b st free. k b st tt;
    pass = λ w i z m comp tgt le c k b st free. computes i z m.ops m.end (no_note y i comp) c (writes_target y z i tgt) (λ e. k (not_asked z e) b st free);
    store = λ w el l a m c k b st free. later (quiet (Store el l a) refl c) (k b st free);
    change = λ w i z m comp tgt off may' c k b st free.
        computes i z (Note z (Is (Of (Name z))) ∷ m.ops) m.end (no_note y i comp) c (writes_target y z i tgt) (λ e. later (quiet (Note z (Is (Of (Name z)))) e tt) (k b st free));
    noted = λ z m may' k b st free. later (quiet (Note z (Is (Of (Name z)))) free tt) (k b st tt);
    zero = λ o k m h b st free. later (quiet (Zero o k) refl tt) (h b st tt);
    copy = λ o d k m h b st free. later (quiet (CopyWords o d k) refl tt) (h b st tt);
    call = λ z f all m c k b st free. computes (Call (Some z) f all) z m.ops m.end refl c refl (λ e. k (not_asked z e) b st e);
    call_none = λ f all m c k b st free. later (quiet (Call None f all) refl c) (k b st tt);
    jump = λ l inner h b st free. over (no_and temp) (to_one (AtLabel blocks (Waits blocks y temp)) l (h b st));
    branch = λ o a d one other inner s r h k b st free. over (quiet_by temp _ (λ t. two_read y temp t a d s r)) (to_two (AtLabel blocks (Waits blocks y temp)) one other (h b st) (k b st));
    end = λ a inner c h b st free. over (quiet_by temp _ (λ t. some_reads y temp t a c)) (to_none (AtLabel blocks (Waits blocks y temp)));
    close = λ m has b st. closed_at blocks top (Waits blocks y temp) place m st (has b (closed_before blocks top place m st) tt);
    keep = λ m l inner g has h b st. h b (grown blocks top inner m.inner g (closed_before blocks top place m st));
    made = λ m has. tt;
    shut = λ m has. tt;
  }
