use Rattle.std.proofs.Common.{refl}
use Rattle.c_meaning.proofs.laws.runs_are_worked.Goals as goal

pub returns : goal.returns
returns c = record {
  sums_run = refl;
  empty_if_runs = record { places_are = refl; bytes_are = refl; ends = refl };
  endless_runs = record { places_are = refl; bytes_are = refl; ends = refl };
  falls_through_runs = record { places_are = refl; bytes_are = refl; ends = refl };
  overflows_runs = record { places_are = refl; bytes_are = refl; ends = refl };
  points_back_runs = record { places_are = refl; bytes_are = refl; ends = refl };
  stores_first_runs = record { places_are = refl; bytes_are = refl; ends = refl };
  reads_first_runs = record { places_are = refl; bytes_are = refl; ends = refl };
  goes_on_runs = record { places_are = refl; bytes_are = refl; ends = refl };
}
