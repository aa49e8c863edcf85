-- `judge::found::look` meets its contract: each finding is told where no test before it held. Assumes nothing.
use Rattle.std.proofs.Common.{rules, ℕ, List, ◌≡◌, ◌∙◌, refl}
use Rattle.paths.specs.Fan.{hops}
use Rattle.paths.specs.Rules.{span}
use Rattle.judge_rows.specs.Rules.{rules_of}
use Rattle.judge_rows.specs.declared.Rules as code
use Rattle.judge.specs.Looks.{Look, too_long, not_long, wrong_start, right-start, wrong_link, right-links, wrong_end, right_end, seen_again, none_seen, not_filled, all_filled, told}
use Rattle.judge.proofs.found.look.Goals as goal

abbrev look : (rules : code.Rules) (s t : ℕ) (places counts : List ℕ) (i : ℕ) → rules.width ≡ span (rules_of rules) → Look
look rules s t places counts i wide = record { r = rules_of rules; w = rules.width; s = s; t = t; places = places; counts = counts; i = i; wide = wide }

pub returns-then-w-h : goal.returns-then-w-h
unfolding hops
returns-then-w-h c =
    let a = c.args in
    let k = look a.rules a.source a.target a.places.now a.counts.now a.i c.requires.next.ruled.wide in
    record { result_value = too_long k c.if-w-h.true; looked_2 = λ e. absurd (told e) }

pub returns-then-relay-source : goal.returns-then-relay-source
unfolding hops
returns-then-relay-source c =
    let a = c.args in
    let k = look a.rules a.source a.target a.places.now a.counts.now a.i c.requires.next.ruled.wide in
    record { result_value = wrong_start k c.relay.ensures c.if-relay-source.true ∙ not_long k c.if-w-h.false; looked_2 = λ e. absurd (told e) }

pub returns-in-Some : goal.returns-in-Some
unfolding hops
returns-in-Some c =
    let a = c.args in
    let k = look a.rules a.source a.target a.places.now a.counts.now a.i c.requires.next.ruled.wide in
    let past = right-start k c.relay.ensures c.if-relay-source.false ∙ not_long k c.if-w-h.false in
    record { result_value = wrong_link k c.in-Some.ensures ∙ past; looked_2 = λ e. absurd (told e) }

pub returns-then-relay-target : goal.returns-then-relay-target
unfolding hops
returns-then-relay-target c =
    let a = c.args in
    let k = look a.rules a.source a.target a.places.now a.counts.now a.i c.requires.next.ruled.wide in
    let past = right-links k c.in_default.ensures ∙ right-start k c.relay.ensures c.if-relay-source.false ∙ not_long k c.if-w-h.false in
    record { result_value = wrong_end k c.relay-2.ensures c.if-relay-target.true ∙ past; looked_2 = λ e. absurd (told e) }

pub seen_at-requires-clause-h_value : goal.seen_at-requires-clause-h_value
unfolding hops
seen_at-requires-clause-h_value c = search rules

pub returns-in-Some-seen_at : goal.returns-in-Some-seen_at
unfolding hops
returns-in-Some-seen_at c =
    let a = c.args in
    let k = look a.rules a.source a.target a.places.now a.counts.now a.i c.requires.next.ruled.wide in
    let past =
    right_end k c.relay-2.ensures c.if-relay-target.false
    ∙ right-links k c.in_default.ensures ∙ right-start k c.relay.ensures c.if-relay-source.false ∙ not_long k c.if-w-h.false in
    record { result_value = seen_again k c.in-Some-seen_at.ensures.result_value ∙ past; looked_2 = λ e. absurd (told e) }

pub returns-in-Some-unfilled_at : goal.returns-in-Some-unfilled_at
unfolding hops
returns-in-Some-unfilled_at c =
    let a = c.args in
    let k = look a.rules a.source a.target a.places.now a.counts.now a.i c.requires.next.ruled.wide in
    let past =
    none_seen k c.in_default-seen_at.ensures.result_value
    ∙ right_end k c.relay-2.ensures c.if-relay-target.false
    ∙ right-links k c.in_default.ensures ∙ right-start k c.relay.ensures c.if-relay-source.false ∙ not_long k c.if-w-h.false in
    record { result_value = not_filled k c.in-Some-unfilled_at.ensures ∙ past; looked_2 = λ e. absurd (told e) }

pub returns : goal.returns
unfolding hops
returns c =
    let a = c.args in
    let k = look a.rules a.source a.target a.places.now a.counts.now a.i c.requires.next.ruled.wide in
    let past =
    none_seen k c.in_default-seen_at.ensures.result_value
    ∙ right_end k c.relay-2.ensures c.if-relay-target.false
    ∙ right-links k c.in_default.ensures ∙ right-start k c.relay.ensures c.if-relay-source.false ∙ not_long k c.if-w-h.false in
    record {
      result_value = all_filled k c.in_default-unfilled_at.ensures ∙ past;
      looked_2 = λ f. c.in_default-seen_at.ensures.looked_2 refl;
    }
