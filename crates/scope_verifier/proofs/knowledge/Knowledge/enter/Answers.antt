use Rattle.std.proofs.Common.{◌≡◌, ◌∙◌, ◌<◌, ◌-◌, ◌∷◌, ℕ, List, suc, ap, arith, drop, get_or, length, sym, subst, drop-cons}
use Rattle.std.proofs.Math.Seq.{drop-length}
use Rattle.std.proofs.lemmas.List.Elements.{All-get_or}
use Rattle.code_form.specs.declared.form.Fact.{Fact}
use Rattle.code_form.specs.declared.form.Fact.TheVariants.{Nonnull}
use Rattle.code_form.specs.Known.{Known, facts_known}
use Rattle.scope_verifier.specs.Shown.{FactHasPlace, Shows}
use Rattle.scope_verifier.proofs.Changes.{one_more}
use Rattle.scope_verifier.proofs.knowledge.Knowledge.enter.Goals as goal

pub loop-index-init : goal.loop-index-init
loop-index-init c = λ R S h all. subst (λ (x : List Fact). Shows R S c.begin.new.self (facts_known x)) (sym (drop-length c.args.facts.now)) (c.in_ok-begin.ensures R S h)

pub loop-index-preserved : goal.loop-index-preserved
loop-index-preserved c = λ R S h all.
    let facts = c.args.facts.now in
    let i = c.loop-index.index in
    let x = get_or facts (i - 1) (Nonnull 0) in
    let there : i - 1 < length facts = omega arith in
    let again : suc (i - 1) ≡ i = omega arith in
    let is : drop (i - 1) facts ≡ x ∷ drop i facts = drop-cons facts (i - 1) (Nonnull 0) there ∙ ap (λ (k : ℕ). x ∷ drop k facts) again in
    let next = c.in_ok-learn.ensures R S (facts_known (drop i facts)) (c.loop-index.invariant R S h all) (All-get_or (FactHasPlace R S) facts (i - 1) (Nonnull 0) there all) in
    subst (λ (l : List Fact). Shows R S c.learn.new.self (facts_known l)) (sym is) (subst (λ (k : Known). Shows R S c.learn.new.self k) (one_more x (drop i facts)) next)

pub returns : goal.returns
returns c = λ R S h all.
    let none : c.loop-index.index ≡ 0 = omega arith in
    subst (λ (i : ℕ). Shows R S c.loop-index.self (facts_known (drop i c.args.facts.now))) none (c.loop-index.invariant R S h all)
