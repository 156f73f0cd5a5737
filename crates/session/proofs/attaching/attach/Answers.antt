use Rattle.std.proofs.Common.{◌≡◌, ◌<◌, ◌++◌, inr, refl, sym, ap, ◌∙◌, subst, Some, rules}
use Rattle.std.specs.List.{AllByRecursion}
use Rattle.image_form.specs.Views.{viewed}
use Rattle.outside.specs.Taken.{TakesPart}
use Rattle.script_form.specs.Script.{orders}
use Rattle.stop_engine.specs.Transcript.{transcript_bytes}
use Rattle.command_line.specs.Job.{attach_given}
use Rattle.session.proofs.Sessions.{attached, attached_accepted, attached_refused, played_same, written_late}
use Rattle.session.proofs.attaching.attach.Goals as goal

pub returns-in-Ok-play : goal.returns-in-Ok-play
returns-in-Ok-play g c = record {
  caused = record {
    usage = search rules;
    audit = search rules;
    read = search rules;
    read_only = search rules;
    too_long = search rules;
    within = search rules;
    image = search rules;
    source = search rules;
    script = search rules;
    accepted = λ e told.
        attached_accepted c.in-Ok-view_image.image c.in-Ok-read_script.commands c.deref.result.now c.deref-2.result.now (g.S.Shelf.state c.args.shelf.now).held (attach_given c.args.job.now)
        c.in-Ok-view_image.ensures c.in-Ok-read_script.ensures (c.in-Ok.ensures.image told ∙ ap Some (sym c.deref.ensures.value)) (c.in-Ok.ensures.script told ∙ ap Some (sym c.deref-2.ensures.value));
    write = search rules;
    write_only = search rules;
  };
  stays = search rules;
  image = search rules;
  transcript = record {
    part = search rules;
    done = λ e told told_sink.
        let limit : c.from-limit.result ≡ (attach_given c.args.job.now).limit = search rules in
        let prints = attached c.in-Ok-view_image.image c.in-Ok-read_script.commands c.deref.result.now c.deref-2.result.now c.in-Ok.texts.input.items (g.S.Shelf.state c.args.shelf.now).held (attach_given c.args.job.now)
        c.in-Ok-view_image.ensures c.in-Ok-read_script.ensures
        (c.in-Ok.ensures.image told ∙ ap Some (sym c.deref.ensures.value))
        (c.in-Ok.ensures.script told ∙ ap Some (sym c.deref-2.ensures.value))
        (c.in-Ok.ensures.input told) (subst (AllByRecursion (λ b. b < 256)) c.deref-4.ensures.value c.in-Ok-play.ensures.bytes) in
        let same = played_same (viewed c.in-Ok-view_image.image) c.deref-3.result.now c.in-Ok-read_script.commands.items c.in-Ok.texts.input.items c.deref-4.result.now c.from-limit.result (attach_given c.args.job.now).limit c.deref-3.ensures.value c.deref-4.ensures.value limit in
        record {
          printed = transcript_bytes (viewed c.in-Ok-view_image.image) (orders c.in-Ok-read_script.commands.items) c.in-Ok.texts.input.items (attach_given c.args.job.now).limit;
          prints = prints;
          whole = c.in-Ok-play.ensures.whole told_sink ∙ ap (λ p. (g.K.Sink.state c.args.sink.now).taken ++ p) same;
        };
  };
}

pub returns-in-Err-read_script : goal.returns-in-Err-read_script
returns-in-Err-read_script g c = record {
  caused = record {
    usage = search rules;
    audit = search rules;
    read = search rules;
    read_only = search rules;
    too_long = search rules;
    within = search rules;
    image = search rules;
    source = search rules;
    script = λ code at e told.
        attached_refused c.in-Err-read_script.status code at c.in-Ok-view_image.image c.deref.result.now c.deref-2.result.now (g.S.Shelf.state c.args.shelf.now).held (attach_given c.args.job.now)
        e c.in-Ok-view_image.ensures c.in-Err-read_script.ensures (c.in-Ok.ensures.image told ∙ ap Some (sym c.deref.ensures.value)) (c.in-Ok.ensures.script told ∙ ap Some (sym c.deref-2.ensures.value));
    accepted = search rules;
    write = search rules;
    write_only = search rules;
  };
  stays = record {
    kept = λ early told n. c.in-Ok.ensures.same n told;
    nothing = λ early told. refl;
    others = λ told n unsaved. c.in-Ok.ensures.same n told;
  };
  image = search rules;
  transcript = search rules;
}

pub returns : goal.returns
returns g c = record {
  caused = record {
    usage = search rules;
    audit = search rules;
    read = search rules;
    read_only = search rules;
    too_long = search rules;
    within = search rules;
    image = search rules;
    source = search rules;
    script = search rules;
    accepted = λ e told.
        attached_accepted c.in-Ok-view_image.image c.in-Ok-read_script.commands c.deref.result.now c.deref-2.result.now (g.S.Shelf.state c.args.shelf.now).held (attach_given c.args.job.now)
        c.in-Ok-view_image.ensures c.in-Ok-read_script.ensures (c.in-Ok.ensures.image told ∙ ap Some (sym c.deref.ensures.value)) (c.in-Ok.ensures.script told ∙ ap Some (sym c.deref-2.ensures.value));
    write = search rules;
    write_only = search rules;
  };
  stays = record {
    kept = λ early told n. c.in-Ok.ensures.same n told;
    nothing = λ early told. absurd (written_late (Unit {0}) c.in-Err-play.status (g.K.Sink.state c.args.sink.now).fault_count (g.K.Sink.state c.play.new.sink).fault_count c.in-Err-play.ensures.ends early);
    others = λ told n unsaved. c.in-Ok.ensures.same n told;
  };
  image = search rules;
  transcript = record {
    part = λ cut told told_sink.
        let limit : c.from-limit.result ≡ (attach_given c.args.job.now).limit = search rules in
        let prints = attached c.in-Ok-view_image.image c.in-Ok-read_script.commands c.deref.result.now c.deref-2.result.now c.in-Ok.texts.input.items (g.S.Shelf.state c.args.shelf.now).held (attach_given c.args.job.now)
        c.in-Ok-view_image.ensures c.in-Ok-read_script.ensures
        (c.in-Ok.ensures.image told ∙ ap Some (sym c.deref.ensures.value))
        (c.in-Ok.ensures.script told ∙ ap Some (sym c.deref-2.ensures.value))
        (c.in-Ok.ensures.input told) (subst (AllByRecursion (λ b. b < 256)) c.deref-4.ensures.value c.in-Err-play.ensures.bytes) in
        let same = played_same (viewed c.in-Ok-view_image.image) c.deref-3.result.now c.in-Ok-read_script.commands.items c.in-Ok.texts.input.items c.deref-4.result.now c.from-limit.result (attach_given c.args.job.now).limit c.deref-3.ensures.value c.deref-4.ensures.value limit in
        inr (record {
          printed = transcript_bytes (viewed c.in-Ok-view_image.image) (orders c.in-Ok-read_script.commands.items) c.in-Ok.texts.input.items (attach_given c.args.job.now).limit;
          prints = prints;
          part = subst (λ p. TakesPart p (g.K.Sink.state c.args.sink.now).taken (g.K.Sink.state c.play.new.sink).taken) same (c.in-Err-play.ensures.part told_sink);
        });
    done = search rules;
  };
}
