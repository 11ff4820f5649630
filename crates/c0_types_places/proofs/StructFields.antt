-- A field that a struct does not have.
use Rattle.std.proofs.Common.{◌≡◌, ap, Some, None, inl, inr, Result, Ok, Err}
use Rattle.std.specs.Prelude.{◌⊎◌, IfErr}
use Rattle.c0_source.specs.declared.fault.Fault.{Fault}
use Rattle.c0_source.specs.declared.fault.FaultKind.TheVariants as k
use Rattle.c0_source.specs.declared.fault.Span.{Span}
use Rattle.c0_syntax.specs.declared.name.Name as n
use Rattle.c0_syntax.specs.Views.{name_of}
use Rattle.c0_rules.specs.Types.{Environment, Name, ResolvedType, StructEntry, StructNamed}
use Rattle.c0_rules.specs.Expressions.{Context}
use Rattle.c0_rules.specs.FaultExpressions.{FieldCause, Told, struct_name}

pub field_cause : {T : Type 0} (r : Result T Fault) (env : Environment) (at : Context) (resolved : ResolvedType) (m : Name) (d : StructEntry) (here : Span) (x : n.Name) (span : Span)
    → resolved ≡ StructNamed m → env.structs m ≡ Some d → IfErr r (λ f. (f.kind ≡ k.OutOfMemory) ⊎ ((d.fields (name_of x) ≡ None) × Told k.UnknownField x.span f))
    → IfErr r (λ f. (f.kind ≡ k.OutOfMemory) ⊎ FieldCause env at f resolved here x span)
field_cause (Ok q) env at resolved m d here x span e g h = tt
field_cause (Err f) env at resolved m d here x span e g (inl h) = inl h
field_cause (Err f) env at resolved m d here x span e g (inr h) = inr (inr (inr (m, d, ap struct_name e, g, h.0, h.1)))
