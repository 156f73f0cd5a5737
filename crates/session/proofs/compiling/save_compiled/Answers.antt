use Rattle.std.proofs.Common.{◌≡◌, sym, subst, ◌∙◌, refl, [], append-nil, rules}
use Rattle.outside.specs.Held.{Loads}
use Rattle.command_line.specs.Job.{CompileGiven, compile, compile_given}
use Rattle.session.specs.Served.{Saving}
use Rattle.session.proofs.Sessions.{source_refused, source_alone_accepted, image_made, nothing_left, part_left, whole_saved}
use Rattle.session.proofs.compiling.save_compiled.Goals as goal

abbrev saving : CompileGiven → Saving
saving given = record { source = given.source; passes = given.passes; mode = given.mode; image = given.image }

pub returns-in-Err-make : goal.returns-in-Err-make
returns-in-Err-make g c = λ sink. record {
  caused = record {
    usage = search rules;
    audit = search rules;
    read = search rules;
    read_only = search rules;
    too_long = search rules;
    within = search rules;
    image = search rules;
    source = λ code at e told.
        let name : c.as_str.result.now ≡ (compile_given c.args.job.now).source = search rules in
        let loads = subst (λ n. Loads ((g.S.Shelf.state c.args.shelf.now).held n) 1048576 c.deref.result.now) name (subst (Loads ((g.S.Shelf.state c.args.shelf.now).held c.as_str.result.now) 1048576) (sym c.deref.ensures.value) (c.in-Ok.ensures.value told)) in
        source_refused c.in-Err-make.status code at c.deref.result.now ((g.S.Shelf.state c.args.shelf.now).held (compile_given c.args.job.now).source) e c.in-Err-make.ensures loads;
    script = search rules;
    accepted = search rules;
    write = search rules;
    write_only = search rules;
  };
  stays = search rules;
  image = record {
    saved = search rules;
    whole = search rules;
    left = λ cut told. nothing_left (λ p. (goal.Pass-dyn g (p.vtable, p.value)).named p.value) (λ p. ((goal.Pass-dyn g (p.vtable, p.value)).steps p.value).leads) c.args.passes.now (g.S.Shelf.state c.args.shelf.now).held (g.S.Shelf.state c.load_source.new.shelf).held (compile (compile_given c.args.job.now)) (λ n. c.load_source.ensures.same n told);
  };
  transcript = search rules;
}

pub returns-in-Ok-save_image : goal.returns-in-Ok-save_image
returns-in-Ok-save_image g c = λ sink. record {
  caused = record {
    usage = search rules;
    audit = search rules;
    read = search rules;
    read_only = search rules;
    too_long = search rules;
    within = search rules;
    image = search rules;
    source = search rules;
    script = search rules;
    accepted = λ e told.
        let name : c.as_str.result.now ≡ (compile_given c.args.job.now).source = search rules in
        let loads = subst (λ n. Loads ((g.S.Shelf.state c.args.shelf.now).held n) 1048576 c.deref.result.now) name (subst (Loads ((g.S.Shelf.state c.args.shelf.now).held c.as_str.result.now) 1048576) (sym c.deref.ensures.value) (c.in-Ok.ensures.value told)) in
        source_alone_accepted c.deref.result.now c.in-Ok-make.made (g.S.Shelf.state c.args.shelf.now).held (compile_given c.args.job.now) c.in-Ok-make.ensures loads;
    write = search rules;
    write_only = search rules;
  };
  stays = search rules;
  image = record {
    saved = λ e told.
        let name : c.as_str.result.now ≡ (compile_given c.args.job.now).source = search rules in
        let loads = subst (λ n. Loads ((g.S.Shelf.state c.args.shelf.now).held n) 1048576 c.deref.result.now) name (subst (Loads ((g.S.Shelf.state c.args.shelf.now).held c.as_str.result.now) 1048576) (sym c.deref.ensures.value) (c.in-Ok.ensures.value told)) in
        let image : c.as_str-2.result.now ≡ (compile_given c.args.job.now).image = search rules in
        let made = image_made (g.S.Shelf.state c.args.shelf.now).held (saving (compile_given c.args.job.now)) c.deref.result.now c.deref-2.result.now c.in-Ok-make.made loads c.in-Ok-make.ensures c.deref-2.ensures.value in
        whole_saved (g.S.Shelf.state c.args.shelf.now).held (g.S.Shelf.state c.save_image.new.shelf).held (saving (compile_given c.args.job.now)) c.as_str-2.result.now c.deref-2.result.now made image (c.in-Ok-save_image.ensures.saved (c.in-Ok.ensures.telling ∙ told));
    whole = search rules;
    left = search rules;
  };
  transcript = record {
    part = search rules;
    done = λ e told told_sink. record { printed = []; prints = refl; whole = sym (append-nil sink.taken) };
  };
}

pub returns : goal.returns
returns g c = λ sink. record {
  caused = record {
    usage = search rules;
    audit = search rules;
    read = search rules;
    read_only = search rules;
    too_long = search rules;
    within = search rules;
    image = search rules;
    source = search rules;
    script = search rules;
    accepted = λ e told.
        let name : c.as_str.result.now ≡ (compile_given c.args.job.now).source = search rules in
        let loads = subst (λ n. Loads ((g.S.Shelf.state c.args.shelf.now).held n) 1048576 c.deref.result.now) name (subst (Loads ((g.S.Shelf.state c.args.shelf.now).held c.as_str.result.now) 1048576) (sym c.deref.ensures.value) (c.in-Ok.ensures.value told)) in
        source_alone_accepted c.deref.result.now c.in-Ok-make.made (g.S.Shelf.state c.args.shelf.now).held (compile_given c.args.job.now) c.in-Ok-make.ensures loads;
    write = search rules;
    write_only = search rules;
  };
  stays = search rules;
  image = record {
    saved = search rules;
    whole = search rules;
    left = λ cut told.
        let name : c.as_str.result.now ≡ (compile_given c.args.job.now).source = search rules in
        let loads = subst (λ n. Loads ((g.S.Shelf.state c.args.shelf.now).held n) 1048576 c.deref.result.now) name (subst (Loads ((g.S.Shelf.state c.args.shelf.now).held c.as_str.result.now) 1048576) (sym c.deref.ensures.value) (c.in-Ok.ensures.value told)) in
        let image : c.as_str-2.result.now ≡ (compile_given c.args.job.now).image = search rules in
        let made = image_made (g.S.Shelf.state c.args.shelf.now).held (saving (compile_given c.args.job.now)) c.deref.result.now c.deref-2.result.now c.in-Ok-make.made loads c.in-Ok-make.ensures c.deref-2.ensures.value in
        part_left (g.S.Shelf.state c.args.shelf.now).held (g.S.Shelf.state c.load_source.new.shelf).held (g.S.Shelf.state c.save_image.new.shelf).held (saving (compile_given c.args.job.now)) c.as_str-2.result.now c.deref-2.result.now
        made (c.load_source.ensures.same c.as_str-2.result.now told) image (c.in-Err-save_image.ensures.part (c.in-Ok.ensures.telling ∙ told));
  };
  transcript = search rules;
}

pub make-requires : goal.make-requires
make-requires g c = c.requires
