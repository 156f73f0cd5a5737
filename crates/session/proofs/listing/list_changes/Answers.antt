use Rattle.std.proofs.Common.{◌≡◌, inr, map, rules, subst, sym}
use Rattle.std.specs.List.{flat_map}
use Rattle.line_form.specs.Lines.{line}
use Rattle.outside.specs.Held.{Loads}
use Rattle.command_line.specs.Job.{passes_given}
use Rattle.session.specs.Limits.{IsThere}
use Rattle.session.specs.Served.{CanRun}
use Rattle.debug_records.specs.Change.{letters}
use Rattle.session.specs.Listed.{AreLinesFor}
use Rattle.session.proofs.Lines.{changes_listed, list_accepted, list_refused, list_within}
use Rattle.session.proofs.listing.list_changes.Goals as goal

pub list-requires : goal.list-requires
list-requires g c = subst (λ names. CanRun (λ p. (goal.Pass-dyn g (p.vtable, p.value)).named p.value) c.args.passes.now (map letters names)) (sym c.deref-2.ensures.value) c.requires

pub returns-in-Err-list : goal.returns-in-Err-list
returns-in-Err-list g c = record {
  caused = record {
    usage = search rules;
    audit = search rules;
    read = search rules;
    read_only = search rules;
    too_long = search rules;
    within = λ l told.
        let name : c.as_str.result.now ≡ (passes_given c.args.job.now).source = search rules in
        list_within (g.S.Shelf.state c.args.shelf.now).held (passes_given c.args.job.now) (subst (λ n. IsThere ((g.S.Shelf.state c.args.shelf.now).held n)) name (c.in-Ok.ensures.there told));
    image = search rules;
    source = λ code at e told.
        let name : c.as_str.result.now ≡ (passes_given c.args.job.now).source = search rules in
        let loads = subst (λ n. Loads ((g.S.Shelf.state c.args.shelf.now).held n) 1048576 c.deref.result.now) name (subst (Loads ((g.S.Shelf.state c.args.shelf.now).held c.as_str.result.now) 1048576) (sym c.deref.ensures.value) (c.in-Ok.ensures.value told)) in
        list_refused c.in-Err-list.status code at c.deref.result.now (g.S.Shelf.state c.args.shelf.now).held (passes_given c.args.job.now) e c.in-Err-list.ensures loads;
    script = search rules;
    accepted = search rules;
    write = search rules;
    write_only = search rules;
  };
  stays = search rules;
  image = search rules;
  transcript = search rules;
}

pub returns-in-Ok-put_lines : goal.returns-in-Ok-put_lines
returns-in-Ok-put_lines g c = record {
  caused = record {
    usage = search rules;
    audit = search rules;
    read = search rules;
    read_only = search rules;
    too_long = search rules;
    within = λ l told.
        let name : c.as_str.result.now ≡ (passes_given c.args.job.now).source = search rules in
        list_within (g.S.Shelf.state c.args.shelf.now).held (passes_given c.args.job.now) (subst (λ n. IsThere ((g.S.Shelf.state c.args.shelf.now).held n)) name (c.in-Ok.ensures.there told));
    image = search rules;
    source = search rules;
    script = search rules;
    accepted = λ e told.
        let name : c.as_str.result.now ≡ (passes_given c.args.job.now).source = search rules in
        let loads = subst (λ n. Loads ((g.S.Shelf.state c.args.shelf.now).held n) 1048576 c.deref.result.now) name (subst (Loads ((g.S.Shelf.state c.args.shelf.now).held c.as_str.result.now) 1048576) (sym c.deref.ensures.value) (c.in-Ok.ensures.value told)) in
        list_accepted c.deref.result.now (g.S.Shelf.state c.args.shelf.now).held (passes_given c.args.job.now) c.in-Ok-list.ensures.understood loads;
    write = search rules;
    write_only = search rules;
  };
  stays = search rules;
  image = search rules;
  transcript = record {
    part = search rules;
    done = λ e told told_sink.
        let name : c.as_str.result.now ≡ (passes_given c.args.job.now).source = search rules in
        let loads = subst (λ n. Loads ((g.S.Shelf.state c.args.shelf.now).held n) 1048576 c.deref.result.now) name (subst (Loads ((g.S.Shelf.state c.args.shelf.now).held c.as_str.result.now) 1048576) (sym c.deref.ensures.value) (c.in-Ok.ensures.value told)) in
        record {
          printed = flat_map line (map (λ l. l.items) c.deref-3.result.now);
          prints = changes_listed c.deref.result.now (g.S.Shelf.state c.args.shelf.now).held (passes_given c.args.job.now) (map (λ l. l.items) c.deref-3.result.now) (subst (λ ls. AreLinesFor (λ p. (goal.Pass-dyn g (p.vtable, p.value)).named p.value) (λ p. ((goal.Pass-dyn g (p.vtable, p.value)).steps p.value).leads) c.args.passes.now c.deref.result.now (passes_given c.args.job.now).passes (map (λ l. l.items) ls)) (sym c.deref-3.ensures.value)
              (subst (λ ps. AreLinesFor (λ p. (goal.Pass-dyn g (p.vtable, p.value)).named p.value) (λ p. ((goal.Pass-dyn g (p.vtable, p.value)).steps p.value).leads) c.args.passes.now c.deref.result.now (map letters ps) (map (λ l. l.items) c.in-Ok-list.lines.items)) c.deref-2.ensures.value c.in-Ok-list.ensures)) loads;
          whole = c.in-Ok-put_lines.ensures.whole told_sink;
        };
  };
}

pub returns : goal.returns
returns g c = record {
  caused = record {
    usage = search rules;
    audit = search rules;
    read = search rules;
    read_only = search rules;
    too_long = search rules;
    within = λ l told.
        let name : c.as_str.result.now ≡ (passes_given c.args.job.now).source = search rules in
        list_within (g.S.Shelf.state c.args.shelf.now).held (passes_given c.args.job.now) (subst (λ n. IsThere ((g.S.Shelf.state c.args.shelf.now).held n)) name (c.in-Ok.ensures.there told));
    image = search rules;
    source = search rules;
    script = search rules;
    accepted = λ e told.
        let name : c.as_str.result.now ≡ (passes_given c.args.job.now).source = search rules in
        let loads = subst (λ n. Loads ((g.S.Shelf.state c.args.shelf.now).held n) 1048576 c.deref.result.now) name (subst (Loads ((g.S.Shelf.state c.args.shelf.now).held c.as_str.result.now) 1048576) (sym c.deref.ensures.value) (c.in-Ok.ensures.value told)) in
        list_accepted c.deref.result.now (g.S.Shelf.state c.args.shelf.now).held (passes_given c.args.job.now) c.in-Ok-list.ensures.understood loads;
    write = search rules;
    write_only = search rules;
  };
  stays = search rules;
  image = search rules;
  transcript = record {
    part = λ cut told told_sink.
        let name : c.as_str.result.now ≡ (passes_given c.args.job.now).source = search rules in
        let loads = subst (λ n. Loads ((g.S.Shelf.state c.args.shelf.now).held n) 1048576 c.deref.result.now) name (subst (Loads ((g.S.Shelf.state c.args.shelf.now).held c.as_str.result.now) 1048576) (sym c.deref.ensures.value) (c.in-Ok.ensures.value told)) in
        inr (record {
          printed = flat_map line (map (λ l. l.items) c.deref-3.result.now);
          prints = changes_listed c.deref.result.now (g.S.Shelf.state c.args.shelf.now).held (passes_given c.args.job.now) (map (λ l. l.items) c.deref-3.result.now) (subst (λ ls. AreLinesFor (λ p. (goal.Pass-dyn g (p.vtable, p.value)).named p.value) (λ p. ((goal.Pass-dyn g (p.vtable, p.value)).steps p.value).leads) c.args.passes.now c.deref.result.now (passes_given c.args.job.now).passes (map (λ l. l.items) ls)) (sym c.deref-3.ensures.value)
              (subst (λ ps. AreLinesFor (λ p. (goal.Pass-dyn g (p.vtable, p.value)).named p.value) (λ p. ((goal.Pass-dyn g (p.vtable, p.value)).steps p.value).leads) c.args.passes.now c.deref.result.now (map letters ps) (map (λ l. l.items) c.in-Ok-list.lines.items)) c.deref-2.ensures.value c.in-Ok-list.ensures)) loads;
          part = c.in-Err-put_lines.ensures.part told_sink;
        });
    done = search rules;
  };
}
