use Rattle.std.proofs.Common.{◌≡◌, rules, sym, ap, ◌∙◌, string_bytes}
use Rattle.std.specs.Prelude.{option_map}
use Rattle.c0_types_terms.specs.Terms.{context_of, env_of}
use Rattle.c0_types_tables.specs.Views.{resolved_of, resolved_plain_of, struct_entry_of, structs_of}
use Rattle.c0_types_places.proofs.StructFields.{field_cause}
use Rattle.c0_types_places.proofs.places.fielded.Goals as goal

pub returns-clause-cause : goal.returns-clause-cause
returns-clause-cause c =
    let s = c.args.terms.now in
    let name = string_bytes c.in-Struct.struct_name.value in
    let same : name ≡ c.as_str.result.now = search (rules) in
    field_cause c.field_of-field.result (env_of s) (context_of s) (resolved_of c.args.of.resolved) name (struct_entry_of c.in-Some.entry.now) c.args.here c.args.name.now c.args.span (ap resolved_of c.in-Plain.is ∙ ap resolved_plain_of c.in-Struct.is)
    (ap (structs_of s.environment.now.structs) same ∙ (sym c.get.ensures ∙ ap (option_map (λ d. struct_entry_of d.now)) c.in-Some.is)) c.field_of-field.ensures.cause
