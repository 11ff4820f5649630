use Rattle.std.proofs.Common.{◌≡◌, [], sym, ap, ◌∙◌, arith, rules, length, map, vec_len}
use Rattle.std.specs.Prelude.{string_bytes}
use Rattle.std.proofs.lemmas.List.{length-map}
use Rattle.c0_typed.specs.Views.{struct_of}
use Rattle.lower_tables.specs.Kinds.{struct_layouts}
use Rattle.lower_tables.specs.Texts.{number_from}
use Rattle.lower_tables.specs.Tables.{layouts_read, offsets_read, starts, structs_of}
use Rattle.lower.proofs.program.lowered_over.Goals as goal

pub invariant_of-functions : goal.invariant_of-functions
invariant_of-functions c =
    let p = c.args.typed.now in
    let s = c.args.singles.now in
    let n = length (structs_of p) in
    let long : vec_len p.structs ≡ length p.structs.items = search rules in
    let mapped : n ≡ length p.structs.items = length-map p.structs.items struct_of in
    let many : c.len-structs.result ≡ n = omega arith in
    record {
      all_structs = many;
      numbered = omega arith;
      laid_out = ap layouts_read c.deref-5.ensures.value ∙ c.in_ok-layouts.ensures ∙ ap (λ ss. struct_layouts c.len-structs.result s [] (map struct_of ss)) c.deref.ensures.value ∙ ap (λ k. struct_layouts k s [] (structs_of p)) many;
      first_texts = λ bytes. c.in_ok-numbers.ensures bytes ∙ ap (λ ts. number_from 1 (map string_bytes ts) bytes) c.deref-4.ensures.value;
      placed = ap offsets_read c.deref-6.ensures.value ∙ c.in_ok-offsets.ensures n s
          ∙ ap (λ ls. map (starts n s (layouts_read ls) 0) (map struct_of c.deref-3.result.now)) (c.deref-2.ensures.value ∙ sym c.deref-5.ensures.value)
          ∙ ap (λ ss. map (starts n s (layouts_read c.deref-5.result.now) 0) (map struct_of ss)) c.deref-3.ensures.value;
    }
