use Rattle.std.proofs.Common.{◌≡◌, ◌<◌, ◌++◌, inr, sym, ap, ◌∙◌, subst, Some, rules}
use Rattle.std.specs.List.{AllByRecursion}
use Rattle.image_form.specs.Form.{Form, form}
use Rattle.image_form.specs.Views.{viewed}
use Rattle.outside.specs.Held.{Loads}
use Rattle.outside.specs.Taken.{TakesPart}
use Rattle.script_form.specs.Script.{orders}
use Rattle.stop_engine.specs.Transcript.{transcript_bytes}
use Rattle.command_line.specs.Job.{DebugGiven, debug, debug_given}
use Rattle.session.specs.Served.{Saving}
use Rattle.session.proofs.Sessions.{source_refused, script_refused, both_accepted, debugged, image_made, nothing_left, part_left, whole_left, whole_saved, played_same, viewed_made, cut_late}
use Rattle.session.proofs.debugging.debug.Goals as goal

abbrev saving : DebugGiven → Saving
saving given = record { source = given.source; passes = given.passes; mode = given.mode; image = given.image }

pub returns-in-Err : goal.returns-in-Err
returns-in-Err g c = record {
  caused = search rules;
  stays = search rules;
  image = record {
    saved = search rules;
    whole = search rules;
    left = λ cut told. nothing_left (λ p. (goal.Pass-dyn g (p.vtable, p.value)).named p.value) (λ p. ((goal.Pass-dyn g (p.vtable, p.value)).steps p.value).leads) c.args.passes.now (g.S.Shelf.state c.args.shelf.now).held (g.S.Shelf.state c.load_texts.new.shelf).held (debug (debug_given c.args.job.now)) (λ n. c.load_texts.ensures.same n told);
  };
  transcript = search rules;
}

pub returns-in-Err-make : goal.returns-in-Err-make
returns-in-Err-make g c = record {
  caused = record {
    usage = search rules;
    audit = search rules;
    read = search rules;
    read_only = search rules;
    too_long = search rules;
    within = search rules;
    image = search rules;
    source = λ code at e told.
        source_refused c.in-Err-make.status code at c.deref.result.now ((g.S.Shelf.state c.args.shelf.now).held (debug_given c.args.job.now).source) e c.in-Err-make.ensures
        (subst (Loads ((g.S.Shelf.state c.args.shelf.now).held (debug_given c.args.job.now).source) 1048576) (sym c.deref.ensures.value) (c.in-Ok.ensures.source told));
    script = search rules;
    accepted = search rules;
    write = search rules;
    write_only = search rules;
  };
  stays = search rules;
  image = record {
    saved = search rules;
    whole = search rules;
    left = λ cut told. nothing_left (λ p. (goal.Pass-dyn g (p.vtable, p.value)).named p.value) (λ p. ((goal.Pass-dyn g (p.vtable, p.value)).steps p.value).leads) c.args.passes.now (g.S.Shelf.state c.args.shelf.now).held (g.S.Shelf.state c.load_texts.new.shelf).held (debug (debug_given c.args.job.now)) (λ n. c.load_texts.ensures.same n told);
  };
  transcript = search rules;
}

pub returns-in-Err-read_script : goal.returns-in-Err-read_script
returns-in-Err-read_script g c = record {
  caused = record {
    usage = search rules;
    audit = search rules;
    read = search rules;
    read_only = search rules;
    too_long = search rules;
    within = search rules;
    image = search rules;
    source = search rules;
    script = λ code at e told.
        script_refused c.in-Err-read_script.status code at c.deref.result.now c.deref-2.result.now c.in-Ok-make.made (g.S.Shelf.state c.args.shelf.now).held (debug_given c.args.job.now) e c.in-Ok-make.ensures c.in-Err-read_script.ensures
        (subst (Loads ((g.S.Shelf.state c.args.shelf.now).held (debug_given c.args.job.now).source) 1048576) (sym c.deref.ensures.value) (c.in-Ok.ensures.source told))
        (c.in-Ok.ensures.script told ∙ ap Some (sym c.deref-2.ensures.value));
    accepted = search rules;
    write = search rules;
    write_only = search rules;
  };
  stays = search rules;
  image = record {
    saved = search rules;
    whole = search rules;
    left = λ cut told. nothing_left (λ p. (goal.Pass-dyn g (p.vtable, p.value)).named p.value) (λ p. ((goal.Pass-dyn g (p.vtable, p.value)).steps p.value).leads) c.args.passes.now (g.S.Shelf.state c.args.shelf.now).held (g.S.Shelf.state c.load_texts.new.shelf).held (debug (debug_given c.args.job.now)) (λ n. c.load_texts.ensures.same n told);
  };
  transcript = search rules;
}

pub returns-in-Err-save_image : goal.returns-in-Err-save_image
returns-in-Err-save_image g c = record {
  caused = record {
    usage = search rules;
    audit = search rules;
    read = search rules;
    read_only = search rules;
    too_long = search rules;
    within = search rules;
    image = search rules;
    source = search rules;
    script = search rules;
    accepted = λ e told.
        both_accepted c.deref.result.now c.deref-2.result.now c.in-Ok-make.made c.in-Ok-read_script.commands (g.S.Shelf.state c.args.shelf.now).held (debug_given c.args.job.now) c.in-Ok-make.ensures c.in-Ok-read_script.ensures
        (subst (Loads ((g.S.Shelf.state c.args.shelf.now).held (debug_given c.args.job.now).source) 1048576) (sym c.deref.ensures.value) (c.in-Ok.ensures.source told))
        (c.in-Ok.ensures.script told ∙ ap Some (sym c.deref-2.ensures.value));
    write = search rules;
    write_only = search rules;
  };
  stays = search rules;
  image = record {
    saved = search rules;
    whole = search rules;
    left = λ cut told.
        let image : c.as_str.result.now ≡ (debug_given c.args.job.now).image = search rules in
        let made = image_made (g.S.Shelf.state c.args.shelf.now).held (saving (debug_given c.args.job.now)) c.deref.result.now c.deref-3.result.now c.in-Ok-make.made
        (subst (Loads ((g.S.Shelf.state c.args.shelf.now).held (debug_given c.args.job.now).source) 1048576) (sym c.deref.ensures.value) (c.in-Ok.ensures.source told))
        c.in-Ok-make.ensures c.deref-3.ensures.value in
        part_left (g.S.Shelf.state c.args.shelf.now).held (g.S.Shelf.state c.load_texts.new.shelf).held (g.S.Shelf.state c.save_image.new.shelf).held (saving (debug_given c.args.job.now)) c.as_str.result.now c.deref-3.result.now
        made (c.load_texts.ensures.same c.as_str.result.now told) image (c.in-Err-save_image.ensures.part (c.in-Ok.ensures.telling ∙ told));
  };
  transcript = search rules;
}

pub of_spelling-image-requires : goal.of_spelling-image-requires
of_spelling-image-requires g c = record { spelled = (form c.in-Ok-make.made.image, c.in-Ok-make.ensures.rules, c.deref-4.ensures.value ∙ c.in-Ok-make.ensures.bytes) }

pub returns-in-Ok-play : goal.returns-in-Ok-play
returns-in-Ok-play g c = record {
  caused = record {
    usage = search rules;
    audit = search rules;
    read = search rules;
    read_only = search rules;
    too_long = search rules;
    within = search rules;
    image = search rules;
    source = search rules;
    script = search rules;
    accepted = λ e told.
        both_accepted c.deref.result.now c.deref-2.result.now c.in-Ok-make.made c.in-Ok-read_script.commands (g.S.Shelf.state c.args.shelf.now).held (debug_given c.args.job.now) c.in-Ok-make.ensures c.in-Ok-read_script.ensures
        (subst (Loads ((g.S.Shelf.state c.args.shelf.now).held (debug_given c.args.job.now).source) 1048576) (sym c.deref.ensures.value) (c.in-Ok.ensures.source told))
        (c.in-Ok.ensures.script told ∙ ap Some (sym c.deref-2.ensures.value));
    write = search rules;
    write_only = search rules;
  };
  stays = record {
    kept = λ early told n. absurd early;
    nothing = λ early told. absurd early;
    others = λ told n other.
        let image : c.as_str.result.now ≡ (debug_given c.args.job.now).image = search rules in
        c.save_image.ensures.others n (λ same. other (same ∙ image)) (c.in-Ok.ensures.telling ∙ told) ∙ c.load_texts.ensures.same n told;
  };
  image = record {
    saved = λ e told.
        let image : c.as_str.result.now ≡ (debug_given c.args.job.now).image = search rules in
        let made = image_made (g.S.Shelf.state c.args.shelf.now).held (saving (debug_given c.args.job.now)) c.deref.result.now c.deref-3.result.now c.in-Ok-make.made
        (subst (Loads ((g.S.Shelf.state c.args.shelf.now).held (debug_given c.args.job.now).source) 1048576) (sym c.deref.ensures.value) (c.in-Ok.ensures.source told))
        c.in-Ok-make.ensures c.deref-3.ensures.value in
        whole_saved (g.S.Shelf.state c.args.shelf.now).held (g.S.Shelf.state c.save_image.new.shelf).held (saving (debug_given c.args.job.now)) c.as_str.result.now c.deref-3.result.now made image (c.in-Ok-save_image.ensures.saved (c.in-Ok.ensures.telling ∙ told));
    whole = search rules;
    left = search rules;
  };
  transcript = record {
    part = search rules;
    done = λ e told told_sink.
        let image : c.as_str.result.now ≡ (debug_given c.args.job.now).image = search rules in
        let limit : c.from-limit.result ≡ (debug_given c.args.job.now).limit = search rules in
        let prints = debugged (g.S.Shelf.state c.args.shelf.now).held (g.S.Shelf.state c.save_image.new.shelf).held (debug_given c.args.job.now) c.deref.result.now c.deref-2.result.now c.in-Ok.texts.input.items c.in-Ok-make.made c.in-Ok-read_script.commands
        (subst (Loads ((g.S.Shelf.state c.args.shelf.now).held (debug_given c.args.job.now).source) 1048576) (sym c.deref.ensures.value) (c.in-Ok.ensures.source told))
        (c.in-Ok.ensures.script told ∙ ap Some (sym c.deref-2.ensures.value))
        (c.in-Ok.ensures.input told) (subst (AllByRecursion (λ b. b < 256)) c.deref-6.ensures.value c.in-Ok-play.ensures.bytes) c.in-Ok-make.ensures c.in-Ok-read_script.ensures
        (ap (g.S.Shelf.state c.save_image.new.shelf).held (sym image) ∙ c.in-Ok-save_image.ensures.saved (c.in-Ok.ensures.telling ∙ told) ∙ ap Some c.deref-3.ensures.value) in
        let one : viewed c.of_spelling-image.result ≡ form c.in-Ok-make.made.image = viewed_made c.deref.result.now (debug_given c.args.job.now).passes (debug_given c.args.job.now).mode c.in-Ok-make.made c.of_spelling-image.result c.deref-4.result.now
        c.in-Ok-make.ensures c.deref-4.ensures.value c.of_spelling-image.ensures.image c.of_spelling-image.ensures.bytes in
        let same = ap (λ (f : Form). transcript_bytes f (orders c.deref-5.result.now) c.deref-6.result.now c.from-limit.result) one
        ∙ played_same (form c.in-Ok-make.made.image) c.deref-5.result.now c.in-Ok-read_script.commands.items c.in-Ok.texts.input.items c.deref-6.result.now c.from-limit.result (debug_given c.args.job.now).limit c.deref-5.ensures.value c.deref-6.ensures.value limit in
        record {
          printed = transcript_bytes (form c.in-Ok-make.made.image) (orders c.in-Ok-read_script.commands.items) c.in-Ok.texts.input.items (debug_given c.args.job.now).limit;
          prints = prints;
          whole = c.in-Ok-play.ensures.whole told_sink ∙ ap (λ p. (g.K.Sink.state c.args.sink.now).taken ++ p) same;
        };
  };
}

pub returns : goal.returns
returns g c = record {
  caused = record {
    usage = search rules;
    audit = search rules;
    read = search rules;
    read_only = search rules;
    too_long = search rules;
    within = search rules;
    image = search rules;
    source = search rules;
    script = search rules;
    accepted = λ e told.
        both_accepted c.deref.result.now c.deref-2.result.now c.in-Ok-make.made c.in-Ok-read_script.commands (g.S.Shelf.state c.args.shelf.now).held (debug_given c.args.job.now) c.in-Ok-make.ensures c.in-Ok-read_script.ensures
        (subst (Loads ((g.S.Shelf.state c.args.shelf.now).held (debug_given c.args.job.now).source) 1048576) (sym c.deref.ensures.value) (c.in-Ok.ensures.source told))
        (c.in-Ok.ensures.script told ∙ ap Some (sym c.deref-2.ensures.value));
    write = search rules;
    write_only = search rules;
  };
  stays = record {
    kept = λ early told n. absurd (cut_late (Unit {0}) c.in-Err-play.status (g.K.Sink.state c.args.sink.now).fault_count (g.K.Sink.state c.play.new.sink).fault_count c.in-Err-play.ensures.ends early);
    nothing = λ early told. absurd (cut_late (Unit {0}) c.in-Err-play.status (g.K.Sink.state c.args.sink.now).fault_count (g.K.Sink.state c.play.new.sink).fault_count c.in-Err-play.ensures.ends early);
    others = λ told n other.
        let image : c.as_str.result.now ≡ (debug_given c.args.job.now).image = search rules in
        c.save_image.ensures.others n (λ same. other (same ∙ image)) (c.in-Ok.ensures.telling ∙ told) ∙ c.load_texts.ensures.same n told;
  };
  image = record {
    saved = search rules;
    whole = λ e saves told.
        let image : c.as_str.result.now ≡ (debug_given c.args.job.now).image = search rules in
        let made = image_made (g.S.Shelf.state c.args.shelf.now).held (saving (debug_given c.args.job.now)) c.deref.result.now c.deref-3.result.now c.in-Ok-make.made
        (subst (Loads ((g.S.Shelf.state c.args.shelf.now).held (debug_given c.args.job.now).source) 1048576) (sym c.deref.ensures.value) (c.in-Ok.ensures.source told))
        c.in-Ok-make.ensures c.deref-3.ensures.value in
        whole_saved (g.S.Shelf.state c.args.shelf.now).held (g.S.Shelf.state c.save_image.new.shelf).held (saving (debug_given c.args.job.now)) c.as_str.result.now c.deref-3.result.now made image (c.in-Ok-save_image.ensures.saved (c.in-Ok.ensures.telling ∙ told));
    left = λ cut told.
        let image : c.as_str.result.now ≡ (debug_given c.args.job.now).image = search rules in
        let made = image_made (g.S.Shelf.state c.args.shelf.now).held (saving (debug_given c.args.job.now)) c.deref.result.now c.deref-3.result.now c.in-Ok-make.made
        (subst (Loads ((g.S.Shelf.state c.args.shelf.now).held (debug_given c.args.job.now).source) 1048576) (sym c.deref.ensures.value) (c.in-Ok.ensures.source told))
        c.in-Ok-make.ensures c.deref-3.ensures.value in
        whole_left (g.S.Shelf.state c.args.shelf.now).held (g.S.Shelf.state c.save_image.new.shelf).held (saving (debug_given c.args.job.now)) c.as_str.result.now c.deref-3.result.now made image (c.in-Ok-save_image.ensures.saved (c.in-Ok.ensures.telling ∙ told));
  };
  transcript = record {
    part = λ cut told told_sink.
        let image : c.as_str.result.now ≡ (debug_given c.args.job.now).image = search rules in
        let limit : c.from-limit.result ≡ (debug_given c.args.job.now).limit = search rules in
        let prints = debugged (g.S.Shelf.state c.args.shelf.now).held (g.S.Shelf.state c.save_image.new.shelf).held (debug_given c.args.job.now) c.deref.result.now c.deref-2.result.now c.in-Ok.texts.input.items c.in-Ok-make.made c.in-Ok-read_script.commands
        (subst (Loads ((g.S.Shelf.state c.args.shelf.now).held (debug_given c.args.job.now).source) 1048576) (sym c.deref.ensures.value) (c.in-Ok.ensures.source told))
        (c.in-Ok.ensures.script told ∙ ap Some (sym c.deref-2.ensures.value))
        (c.in-Ok.ensures.input told) (subst (AllByRecursion (λ b. b < 256)) c.deref-6.ensures.value c.in-Err-play.ensures.bytes) c.in-Ok-make.ensures c.in-Ok-read_script.ensures
        (ap (g.S.Shelf.state c.save_image.new.shelf).held (sym image) ∙ c.in-Ok-save_image.ensures.saved (c.in-Ok.ensures.telling ∙ told) ∙ ap Some c.deref-3.ensures.value) in
        let one : viewed c.of_spelling-image.result ≡ form c.in-Ok-make.made.image = viewed_made c.deref.result.now (debug_given c.args.job.now).passes (debug_given c.args.job.now).mode c.in-Ok-make.made c.of_spelling-image.result c.deref-4.result.now
        c.in-Ok-make.ensures c.deref-4.ensures.value c.of_spelling-image.ensures.image c.of_spelling-image.ensures.bytes in
        let same = ap (λ (f : Form). transcript_bytes f (orders c.deref-5.result.now) c.deref-6.result.now c.from-limit.result) one
        ∙ played_same (form c.in-Ok-make.made.image) c.deref-5.result.now c.in-Ok-read_script.commands.items c.in-Ok.texts.input.items c.deref-6.result.now c.from-limit.result (debug_given c.args.job.now).limit c.deref-5.ensures.value c.deref-6.ensures.value limit in
        inr (record {
          printed = transcript_bytes (form c.in-Ok-make.made.image) (orders c.in-Ok-read_script.commands.items) c.in-Ok.texts.input.items (debug_given c.args.job.now).limit;
          prints = prints;
          part = subst (λ p. TakesPart p (g.K.Sink.state c.args.sink.now).taken (g.K.Sink.state c.play.new.sink).taken) same (c.in-Err-play.ensures.part told_sink);
        });
    done = search rules;
  };
}

pub make-requires : goal.make-requires
make-requires g c = c.requires
