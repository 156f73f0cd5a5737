-- Names that lag behind: the write of the value that the unit before has went.
use Rattle.std.proofs.Common.{◌≡◌, ℕ, Bool, true, false, true≢false, Some, List, [], ◌∷◌, length, refl, sym, ap, ◌∙◌, subst}
use Rattle.std.specs.Prelude.{◌||◌, slice_get}
use Rattle.std.proofs.lemmas.Option.{same_Some}
use Rattle.places.specs.declared.flow.Assignment.{Assignment}
use Rattle.graph_core.specs.declared.value.Value.{Value}
use Rattle.graph_core.specs.Graphs.{Instruction, End, Block, Graph}
use Rattle.graph_core.specs.Uses.{target_of, targets_of}
use Rattle.graph_core.specs.Paths.{History, Among, Way, stays, passes, goes, writes}
use Rattle.graph_core.specs.Points.{Behind, some_passed, ReadsNext}
use Rattle.dead_pass_rule.specs.Idle.{is_computed_next, IsIdle, idle, Goes}
use Rattle.dead_pass_notes.specs.Stale.{IsStale, went, before}
use Rattle.dead_pass_laws.proofs.Values.{writes_target}

-- A name lags where a path has come: its last write went, and a way leads on from there that writes it no more.
pub record Lags (assignments : List Assignment) (g : Graph) (x : ℕ) (h : History) (n : ℕ) (rest : List Instruction) (e : End) : Type 0 where
  pub stale : IsStale assignments g x h
  pub block : ℕ
  pub write : Instruction
  pub more : List Instruction
  pub end : End
  pub goes : Goes assignments g block (write ∷ more) end
  pub target : target_of write ≡ Some x
  pub since : History
  pub way : Way g block more end since n rest e
  pub unwritten : some_passed (writes x) since ≡ false

module _ {assignments : List Assignment} (g : Graph) (x : ℕ) where
  -- It still does behind what does not write it,
  pub lags_behind : (h : History) (n : ℕ) (i : Instruction) (rest : List Instruction) (e : End) (w : Value) → writes x i ≡ false → Lags assignments g x h n (i ∷ rest) e
      → Lags assignments g x (record { block = n; left = length rest; instruction = i; wrote = w } ∷ h) n rest e
  lags_behind h n i rest e w other lags = record {
    stale = before other lags.stale;
    block = lags.block;
    write = lags.write;
    more = lags.more;
    end = lags.end;
    goes = lags.goes;
    target = lags.target;
    since = record { block = n; left = length rest; instruction = i; wrote = w } ∷ lags.since;
    way = passes lags.way w;
    unwritten = both (writes x i) (some_passed (writes x) lags.since) other lags.unwritten;
  }
    where
      both : (a b : Bool) → a ≡ false → b ≡ false → (a || b) ≡ false
      both true b p q = absurd (true≢false p)
      both false b p q = q

  -- and in the block to which control goes.
  pub lags_on : (h : History) (n l : ℕ) (e : End) (b : Block) → Among l (targets_of e) → slice_get g.blocks l ≡ Some b → Lags assignments g x h n [] e → Lags assignments g x h l b.instructions b.end
  lags_on h n l e b to at lags = record {
    stale = lags.stale;
    block = lags.block;
    write = lags.write;
    more = lags.more;
    end = lags.end;
    goes = lags.goes;
    target = lags.target;
    since = lags.since;
    way = goes lags.way to b at;
    unwritten = lags.unwritten;
  }

  -- It lags behind a write of it that goes.
  pub lags_first : (h : History) (n : ℕ) (i : Instruction) (rest : List Instruction) (e : End) (w : Value) → Behind g i n rest e → target_of i ≡ Some x → Goes assignments g n (i ∷ rest) e
      → Lags assignments g x (record { block = n; left = length rest; instruction = i; wrote = w } ∷ h) n rest e
  lags_first h n i rest e w behind target goes_there = record {
    stale = went (writes_target x i target) (record { rest = rest; end = e; behind = behind; left = refl; goes = goes_there });
    block = n;
    write = i;
    more = rest;
    end = e;
    goes = goes_there;
    target = target;
    since = [];
    way = stays;
    unwritten = refl;
  }

  -- what reads the value of a write that goes is a computation, and idle
  read_idle : (m : ℕ) (i : Instruction) (more : List Instruction) (f : End) → target_of i ≡ Some x → IsIdle assignments g m (i ∷ more) f → (since : History) (n : ℕ) (rest : List Instruction) (e : End)
      → Way g m more f since n rest e → some_passed (writes x) since ≡ false → ReadsNext x rest e → (is_computed_next rest ≡ true) × IsIdle assignments g n rest e
  read_idle m i more f target (idle {x = y} stands written may computes further) since n rest e way unwritten reads =
      let one : y ≡ x = same_Some y x (sym written ∙ target) in
      let none : some_passed (writes y) since ≡ false = ap (λ z. some_passed (writes z) since) one ∙ unwritten in
      let read : ReadsNext y rest e = subst (λ z. ReadsNext z rest e) (sym one) reads in
      (computes since n rest e way none read, further since n rest e way none read)

  -- What reads a name that lags is a computation, and idle itself.
  pub lags_read : (h : History) (n : ℕ) (rest : List Instruction) (e : End) → Lags assignments g x h n rest e → ReadsNext x rest e → (is_computed_next rest ≡ true) × IsIdle assignments g n rest e
  lags_read h n rest e lags reads = read_idle lags.block lags.write lags.more lags.end lags.target lags.goes.idle lags.since n rest e lags.way lags.unwritten reads
