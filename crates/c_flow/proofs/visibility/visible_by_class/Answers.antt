use Rattle.std.proofs.Common.{◌≡◌, suc, ◌-◌, ◌<◌, true, false, Bool, length, map, get_or, length-set, sym, ◌∙◌, arith}
use Rattle.std.proofs.lemmas.Grind.{common_steps}
use Rattle.c_tree.specs.Programs.{automatic_view}
use Rattle.c_flow.proofs.Classes.{hidden_if_seen, seen_again, seen_with, shown_if_new}
use Rattle.c_flow.proofs.visibility.visible_by_class.Goals as goal

pub loop-i-preserved-in-Continue-branch-2 : goal.loop-i-preserved-in-Continue-branch-2
loop-i-preserved-in-Continue-branch-2 c =
    let all = map automatic_view c.args.automatics.now in
    let classes = c.args.classes.now in
    let scope = c.args.scope.now in
    let class = c.class_of-class.result in
    let within : c.loop-i.i - 1 < length scope = omega arith in
    let next : suc (c.loop-i.i - 1) ≡ c.loop-i.i = omega arith in
    let unseen : get_or c.loop-i.seen.items class false ≡ false = grind (arith, common_steps) in
    record {
      count = omega (arith, length-set {A = Bool});
      found = shown_if_new all classes c.requires scope (c.loop-i.i - 1) c.loop-i.i class within next c.class_of-class.ensures.class c.loop-i.found.items c.push.new.self.items c.in_ok-push.ensures.items c.loop-i.invariant.found (sym (c.loop-i.invariant.seen class c.class_of-class.ensures.within) ∙ unseen);
      seen = seen_with all classes c.requires scope (c.loop-i.i - 1) c.loop-i.i class within next c.class_of-class.ensures.class c.loop-i.seen.items c.loop-i.invariant.count c.class_of-class.ensures.within c.loop-i.invariant.seen;
    }

pub loop-i-preserved : goal.loop-i-preserved
loop-i-preserved c =
    let all = map automatic_view c.args.automatics.now in
    let classes = c.args.classes.now in
    let scope = c.args.scope.now in
    let class = c.class_of-class.result in
    let within : c.loop-i.i - 1 < length scope = omega arith in
    let next : suc (c.loop-i.i - 1) ≡ c.loop-i.i = omega arith in
    let seen_before : get_or c.loop-i.seen.items class false ≡ true = grind (arith, common_steps) in
    record {
      count = c.loop-i.invariant.count;
      found = hidden_if_seen all classes c.requires scope (c.loop-i.i - 1) c.loop-i.i class within next c.class_of-class.ensures.class c.loop-i.found.items c.loop-i.invariant.found (sym (c.loop-i.invariant.seen class c.class_of-class.ensures.within) ∙ seen_before);
      seen = seen_again all classes c.requires scope (c.loop-i.i - 1) c.loop-i.i class within next c.class_of-class.ensures.class c.loop-i.seen.items c.loop-i.invariant.seen (sym (c.loop-i.invariant.seen class c.class_of-class.ensures.within) ∙ seen_before);
    }
