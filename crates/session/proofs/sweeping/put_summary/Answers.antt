use Rattle.std.proofs.Common.{inr, ap, ◌∙◌, map, rules}
use Rattle.std.specs.List.{flat_map}
use Rattle.line_form.specs.Lines.{line}
use Rattle.command_line.specs.Job.{sweep_given}
use Rattle.session.proofs.Lines.{sweep_accepted, sweep_within, swept_so}
use Rattle.session.proofs.sweeping.put_summary.Goals as goal

pub returns-in-Ok-put_lines : goal.returns-in-Ok-put_lines
returns-in-Ok-put_lines g c = λ shelf. record {
  caused = record {
    usage = search rules;
    audit = search rules;
    read = search rules;
    read_only = search rules;
    too_long = search rules;
    within = λ l told. sweep_within shelf.held (sweep_given c.args.job.now);
    image = search rules;
    source = search rules;
    script = search rules;
    accepted = λ e told. sweep_accepted shelf.held (sweep_given c.args.job.now) c.in-Ok.summary c.in-Ok.ensures;
    write = search rules;
    write_only = search rules;
  };
  stays = search rules;
  image = search rules;
  transcript = record {
    part = search rules;
    done = λ e told told_sink. record {
      printed = flat_map line (map (λ l. l.items) c.deref.result.now);
      prints = swept_so (sweep_given c.args.job.now) c.in-Ok.summary c.deref.result.now c.in-Ok.ensures (ap (map (λ l. l.items)) c.deref.ensures.value ∙ c.in-Ok-summary_lines.ensures);
      whole = c.in-Ok-put_lines.ensures.whole told_sink;
    };
  };
}

pub returns : goal.returns
returns g c = λ shelf. record {
  caused = record {
    usage = search rules;
    audit = search rules;
    read = search rules;
    read_only = search rules;
    too_long = search rules;
    within = λ l told. sweep_within shelf.held (sweep_given c.args.job.now);
    image = search rules;
    source = search rules;
    script = search rules;
    accepted = λ e told. sweep_accepted shelf.held (sweep_given c.args.job.now) c.in-Ok.summary c.in-Ok.ensures;
    write = search rules;
    write_only = search rules;
  };
  stays = search rules;
  image = search rules;
  transcript = record {
    part = λ cut told told_sink. inr (record {
      printed = flat_map line (map (λ l. l.items) c.deref.result.now);
      prints = swept_so (sweep_given c.args.job.now) c.in-Ok.summary c.deref.result.now c.in-Ok.ensures (ap (map (λ l. l.items)) c.deref.ensures.value ∙ c.in-Ok-summary_lines.ensures);
      part = c.in-Err-put_lines.ensures.part told_sink;
    });
    done = search rules;
  };
}

pub swept-requires : goal.swept-requires
swept-requires g c = c.requires
