-- What is no such pass: a removal that is not logged, a note of the scalar itself that no write precedes, and another value that is returned.
use Rattle.std.proofs.Common.{◌≡◌, ◌≢◌, ℕ, zero, suc, ⊎_elim, List, [], ◌∷◌, ◌++◌, refl, sym, subst, lit<}
use Rattle.std.specs.List.{AllByRecursion}
use Rattle.debug_records.specs.declared.change.PassName.{PassName}
use Rattle.event_runs.specs.Agreement.{Pairs}
use Rattle.graph_homes.specs.declared.home.Home.{Home}
use Rattle.graph_core.specs.declared.value.Value.TheVariants.{Odd}
use Rattle.graph_core.specs.Graphs.{Name, Constant, Of, NoteValue, Is, Marker, Note, Jump, UnitForm}
use Rattle.graph_core.specs.Paths.{History, Among, front, behind, stays, passes, goes, Path, path}
use Rattle.graph_core.specs.Memory.{Memory}
use Rattle.graph_core.specs.Runs.{Frame, Event, Exited, Stop, unit_run}
use Rattle.graph_core.specs.WellMarked.{AreWellMarked}
use Rattle.pass_law.specs.Keeps.{SameEvent, exited, Keeps}
use Rattle.pass_law.specs.Earned.{IsEarned}
use Rattle.pass_law.specs.Worked.{noting_with, noting, noting_itself, built, removal, unit_of, AreNotWorked}
use Rattle.pass_law.proofs.Inversions.{among_none, false_is_true, apart}

-- what was passed before the note
abbrev before_note : History
before_note = record { block = 1; left = 1; instruction = Marker 2; wrote = Odd } ∷ record { block = 0; left = 0; instruction = Marker 1; wrote = Odd } ∷ []

to_note : Path noting before_note 1 (Note 0 (Is (Of (Constant 2))) ∷ []) (Jump 2)
to_note = path _ refl (passes (goes (passes stays Odd) front _ refl) Odd)

to_own_note : Path noting_itself before_note 1 (Note 0 (Is (Of (Name 0))) ∷ []) (Jump 2)
to_own_note = path _ refl (passes (goes (passes stays Odd) front _ refl) Odd)

constant_is_name : ◌≡◌ {A = NoteValue} (Is (Of (Constant 2))) (Is (Of (Name 0))) → ⊥
constant_is_name e = cc

unlogged : AreWellMarked (unit_of noting []) → ⊥
unlogged m =
    ⊎_elim (λ own. constant_is_name own.0) (λ other. among_none other.2.logged)
    ((m.graphs 0 noting refl).right before_note 1 2 0 0 (Is (Of (Constant 2))) [] (Jump 2) refl to_note refl)

module _ (pass : PassName) where
  not_earned : (homes : (function : ℕ) → ℕ → Home) → IsEarned (removal pass) [] homes built (unit_of noting []) → ⊥
  not_earned homes earned = among_none earned.logged

  noted : AreWellMarked (unit_of noting_itself (removal pass ∷ [])) → ⊥
  noted m = false_is_true ((m.graphs 0 noting_itself refl).behind_write before_note 1 0 [] (Jump 2) to_own_note)

-- An event is not the program's end with 2.
abbrev NotTwo : Event → Type 0
NotTwo e = e ≢ Exited 2

stop_is_exit : (frames : List Frame) (memory : Memory) → NotTwo (Stop frames memory)
stop_is_exit frames memory e = cc

three_is_two : NotTwo (Exited 3)
three_is_two e = let same : ◌≡◌ {A = ℕ} 3 2 = cc in apart 2 3 (lit< tt) (sym same)

-- events with that end are not related to such as have no such end
is_two : {e : Event} → SameEvent (Exited 2) e → NotTwo e → ⊥
is_two exited not_so = not_so refl

meets : (events shown more : List Event) → Among (Exited 2) events → Pairs SameEvent events shown → AllByRecursion NotTwo (shown ++ more) → ⊥
meets [] shown more a p all = elim a [ ]
meets (_ ∷ events) [] more front p all = p
meets (_ ∷ events) (e ∷ shown) more front p all = is_two p.0 all.0
meets (_ ∷ events) [] more (behind a) p all = p
meets (_ ∷ events) (e ∷ shown) more (behind a) p all = meets events shown more a p.1 all.1

module _ (pass : PassName) where
  abbrev returning_three : UnitForm
  returning_three = unit_of (noting_with (Constant 3)) (removal pass ∷ [])

  never_two : (n : ℕ) → AllByRecursion NotTwo (unit_run returning_three [] n)
  never_two zero = tt
  never_two (suc zero) = tt
  never_two (suc (suc zero)) = tt
  never_two (suc (suc (suc zero))) = (stop_is_exit _ _, tt)
  never_two (suc (suc (suc (suc zero)))) = (stop_is_exit _ _, tt)
  never_two (suc (suc (suc (suc (suc zero))))) = (stop_is_exit _ _, tt)
  never_two (suc (suc (suc (suc (suc (suc zero)))))) = (stop_is_exit _ _, (stop_is_exit _ _, tt))
  never_two (suc (suc (suc (suc (suc (suc (suc n))))))) = (stop_is_exit _ _, (stop_is_exit _ _, (three_is_two, tt)))

  returned : Keeps built returning_three → ⊥
  returned k =
      let r = k.follows [] 8 in
      meets (unit_run built [] 8) r.shown r.more (behind (behind front)) r.same (subst (AllByRecursion NotTwo) r.is (never_two r.steps))

pub are_not_worked : (pass : PassName) → AreNotWorked pass
are_not_worked pass = record { unlogged = unlogged; not_earned = not_earned pass; noted = noted pass; returned = returned pass }
