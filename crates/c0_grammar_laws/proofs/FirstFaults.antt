-- What the tokens before a fault begin, as laws say it.
use Rattle.std.proofs.Common.{◌≡◌, List, [], ◌∷◌, ◌++◌, length, sym, subst, ◌∙◌}
use Rattle.c0_source.specs.Terminals.{Terminal, Word}
use Rattle.c0_syntax.specs.Trees.{Program}
use Rattle.c0_syntax.specs.Programs.{emit_program, WithinLimits}
use Rattle.c0_grammar_laws.specs.declared.read_error.ReadError.TheVariants.{OutOfMemory, Syntax, TooDeep, TooLarge}
use Rattle.c0_grammar_laws.specs.Laws.{FaultsAreFirst, NamesAreTooMany, LimitsAreThese}
use Rattle.c0_grammar_laws.specs.Limits.{Within}
use Rattle.c0_grammar_laws.proofs.WholePrograms.{program_whole}

pub first : FaultsAreFirst
first loops ts OutOfMemory n is met = absurd is
first loops ts (Syntax m) n is met =
    let w = program_whole loops (Syntax m) ts met in
    let g = w.goes in
    (g.before, g.behind, g.others, w.tree, g.left, sym g.there ∙ is, record { spelled = sym g.right; formed = w.formed; within = w.within; few = w.excess })
first loops ts (TooDeep m) n is met =
    let w = program_whole loops (TooDeep m) ts met in
    let g = w.goes in
    (g.before, g.behind, g.others, w.tree, g.left, sym g.there ∙ is, record { spelled = sym g.right; formed = w.formed; within = w.within; few = w.excess })
first loops ts (TooLarge m) n is met = absurd is

pub too_many : NamesAreTooMany
too_many loops ts n met =
    let w = program_whole loops (TooLarge n) ts met in
    let g = w.goes in
    let t = g.there in
    let whole : g.before ++ Word t.0 ∷ t.2 ≡ emit_program w.tree = sym (subst (λ (z : List Terminal). emit_program w.tree ≡ g.before ++ z) t.5 g.right) in
    (g.before, t.0, t.1, t.2, w.tree, subst (λ (z : List Terminal). ts ≡ g.before ++ z) t.4 g.left, sym (subst (λ (z : List Terminal). n ≡ length z) t.4 t.3), t.6, record { spelled = whole; formed = w.formed; within = w.within; few = w.most }, w.excess)

within_is : (program : Program) → WithinLimits program → Within 200 1024 program
within_is [] h = tt
within_is (d ∷ ds) h = (h.0, h.1, within_is ds h.2)

within_was : (program : Program) → Within 200 1024 program → WithinLimits program
within_was [] h = tt
within_was (d ∷ ds) h = (h.0, h.1, within_was ds h.2)

pub limits : LimitsAreThese
limits loops ts program =
    (λ r. record { spelled = r.spelled; formed = r.formed; within = within_is program r.within; few = r.few }, λ r. record { spelled = r.spelled; formed = r.formed; within = within_was program r.within; few = r.few })
