use Rattle.std.proofs.Common.{rules, ◌≡◌, sym, ap, ◌∙◌, subst, map, true, Some, inl, inr, string_bytes}
use Rattle.c0_syntax.specs.Views.{header_of, name_of}
use Rattle.c0_rules.specs.Programs.{agrees}
use Rattle.c0_rules.specs.Types.{Name, Signature}
use Rattle.c0_types_tables.specs.Views.{environment_of, resolved_of}
use Rattle.c0_types_declarations.proofs.Signatures.{declares, refuses}
use Rattle.c0_types_declarations.proofs.headers.signature.Goals as goal

pub returns-in-Ok-names-clause-answers : goal.returns-in-Ok-names-clause-answers
returns-in-Ok-names-clause-answers c =
    let env = environment_of c.args.environment.now in
    let r = resolved_of c.in_ok-result_type.result_type in
    let rs = map resolved_of c.in-Ok.types.items in
    let made : Name → Signature = λ z. record { name = z; result = r; parameters = rs; defined = c.args.defined } in
    let name : string_bytes c.in_ok-clone.field-0 ≡ name_of c.args.header.now.name = search rules in
    let types = rw c.deref.ensures.value at c.in-Ok.ensures.answers in
    let again : agrees (made (name_of c.args.header.now.name)) (env.functions (name_of c.args.header.now.name)) ≡ true = subst (λ z. agrees (made z) (env.functions z) ≡ true) name c.in_ok-check_again.ensures.agrees in
    declares env c.args.defined (header_of c.args.header.now) r rs c.in_ok-result_type.ensures.answers types c.in-Ok-names.ensures.answers c.in_ok-check_name.ensures.answers again ∙ ap (λ z. Some (made z)) (sym name)

pub returns-in-Err-names-clause-answers : goal.returns-in-Err-names-clause-answers
returns-in-Err-names-clause-answers c =
    elim c.in-Err-names.ensures.answers [ inl k ↦ inl k | inr e ↦ inr (refuses (environment_of c.args.environment.now) c.args.defined (header_of c.args.header.now) e) ]
