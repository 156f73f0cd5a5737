use Rattle.std.proofs.Common.{◌≡◌, Some, length, map, refl, ap, ◌∙◌}
use Rattle.std.specs.Prelude.{option_map, slice_get}
use Rattle.std.proofs.lemmas.Option.{slice_get-map, slice_get_read}
use Rattle.base_laws.proofs.Lists.{all_at}
use Rattle.motion_pass_points.specs.MotionPointsComputing.{computation_view}
use Rattle.motion_pass_points.specs.Named.{IsNamed}
use Rattle.motion_pass_points.proofs.columns.put_number.Goals as goal

pub put_computation-requires : goal.put_computation-requires
put_computation-requires c =
    let xs = c.args.all.now in
    let e = c.in-Some.computation.now in
    let there : slice_get (map computation_view xs) c.args.number ≡ Some (computation_view e) = slice_get-map computation_view xs c.args.number ∙ ap (option_map computation_view) (slice_get_read xs (length xs) c.args.number e refl c.in-Some.ensures.lookup.3.0 c.in-Some.ensures.lookup.1) in
    all_at (IsNamed (length c.args.spoiled.now)) (map computation_view xs) c.args.number (computation_view e) c.requires there
