use Rattle.std.proofs.Common.{◌≡◌, ℕ, ◌≤◌, ◌∷◌, ◌+◌, ◌-◌, ◌++◌, List, [], length, ap, sym, ◌∙◌, refl, arith}
use Rattle.std.proofs.lemmas.List.{map_push, append-nil}
use Rattle.std.proofs.lemmas.Result.{err_from_is_err_and}
use Rattle.c_token.specs.Items.{item_view}
use Rattle.c_token.specs.Lexemes.{Lexeme, lexeme, lexemes, word_view}
use Rattle.c_token.specs.Spells.{Takes, too_long}
use Rattle.c_token.specs.Texts.{tokens_at, tokens_of}
use Rattle.c_token.proofs.Readings.{one_more, one_later, at_end, located_ok, refused_there, fails_there}
use Rattle.c_token.proofs.TextSteps.{token_view, goes_on, begins_with, line_on, no_token, few_feeds, grown}
use Rattle.c_token.proofs.TextSteps as steps
use Rattle.c_token.proofs.text.tokens.Goals as goal
use Rattle.c_token.proofs.text.tokens.Goals.{in-Token+in_ok-push, in_default}

pub returns-then-text-gt-TEXT_LIMIT-clause-exact : goal.returns-then-text-gt-TEXT_LIMIT-clause-exact
returns-then-text-gt-TEXT_LIMIT-clause-exact c = steps.too_long c.args.text.now c.if-text-gt-TEXT_LIMIT.true

pub returns-then-text-gt-TEXT_LIMIT-clause-refused : goal.returns-then-text-gt-TEXT_LIMIT-clause-refused
returns-then-text-gt-TEXT_LIMIT-clause-refused c = too_long c.if-text-gt-TEXT_LIMIT.true

pub loop-at-init : goal.loop-at-init
loop-at-init c =
    let short : length c.args.text.now ≤ 1048576 = omega (arith, c.if-text-gt-TEXT_LIMIT.false) in
    record {
      same = rw (c.new-tokens.ensures.items, c.start-context.ensures) (begins_with c.args.text.now short);
      spells = rw (c.new-tokens.ensures.items, c.start-context.ensures) (λ ts s. s);
      faults = rw c.start-context.ensures (λ f s. s);
      in_range = omega arith;
      short = short;
      line = refl;
      few_lines = omega arith;
      deep = rw c.start-context.ensures (omega arith);
      few = rw c.new-tokens.ensures.items (omega arith);
    }

pub returns-in_err-item-clause-exact : goal.returns-in_err-item-clause-exact
returns-in_err-item-clause-exact c =
    let p = err_from_is_err_and c.from_residual.result c.from_residual.ensures.1 in
    rw (p.1, p.2) (fails_there c.args.text.now c.loop-at.at c.loop-at.context _ (lexemes c.loop-at.tokens.items) c.loop-at-test.true c.loop-at.invariant.same c.in_err-item.ensures.exact)

pub returns-in_err-item-clause-refused : goal.returns-in_err-item-clause-refused
returns-in_err-item-clause-refused c =
    let p = err_from_is_err_and c.from_residual.result c.from_residual.ensures.1 in
    rw (p.1, p.2) (refused_there c.args.text.now c.loop-at.at c.loop-at.context _ c.loop-at.invariant.short c.loop-at-test.true c.loop-at.invariant.faults c.in_err-item.ensures.exact)

pub loop-at-preserved : goal.loop-at-preserved
loop-at-preserved c =
    let text = c.args.text.now in
    let at = c.loop-at.at in
    let end = c.in_ok-item.end in
    let piece = item_view c.in_ok-item.item in
    let exact = c.in_ok-item.ensures.exact in
    let within = c.in_ok-item.ensures.within in
    let takes : Takes text c.loop-at.context at piece end = record { item = located_ok text _ _ exact; some = within.0; there = within.1 } in
    let pushed : lexemes c.match-item.tokens.items ≡ lexemes c.loop-at.tokens.items ++ tokens_at text at piece = elim c.match-item.branch [ in-Token+in_ok-push w ↦ rw (w.tokens-is, w.in_ok-push.ensures.items, w.in-Token.is) (map_push lexeme c.loop-at.tokens.items _ ∙ ap (λ (n : ℕ). lexemes c.loop-at.tokens.items ++ token_view (word_view w.in-Token.kind) at n ∷ []) c.loop-at.invariant.line) | in_default w ↦ rw w.tokens-is (sym (ap (λ (ts : List Lexeme). lexemes c.loop-at.tokens.items ++ ts) (no_token text at c.in_ok-item.item w.in_default.not-Token) ∙ append-nil (lexemes c.loop-at.tokens.items))) ] in
    let feeds : c.line_feeds.result ≤ end - at = few_feeds text at end c.line_feeds.result c.line_feeds.ensures.within in
    record {
      same = rw (pushed, c.behind-context.ensures.exact) (goes_on text at end c.loop-at.context piece (lexemes c.loop-at.tokens.items) (tokens_of text) within.0 within.1 exact c.loop-at.invariant.same);
      spells = rw (pushed, c.behind-context.ensures.exact) (one_more text at end c.loop-at.context piece (lexemes c.loop-at.tokens.items) takes c.loop-at.invariant.spells);
      faults = rw c.behind-context.ensures.exact (one_later text at end c.loop-at.context piece takes c.loop-at.invariant.faults);
      in_range = within.1;
      short = c.loop-at.invariant.short;
      line = ap (λ n. n + c.line_feeds.result) c.loop-at.invariant.line ∙ rw c.line_feeds.ensures.count (sym (line_on text at end (omega (arith, within.0))));
      few_lines = omega (arith, feeds, within.0);
      deep = omega (arith, c.behind-context.ensures.within, within.0);
      few = omega (arith, grown text at piece c.loop-at.tokens.items c.match-item.tokens.items pushed, within.0);
    }

pub returns-clause-spells : goal.returns-clause-spells
returns-clause-spells c = record {
  fits = c.loop-at.invariant.short;
  from_start = at_end c.args.text.now c.loop-at.at c.loop-at.context (lexemes c.loop-at.tokens.items) c.loop-at.invariant.in_range (omega (arith, c.loop-at-test.false)) c.loop-at.invariant.spells;
}
