use Rattle.std.proofs.Common.{◌≡◌, ◌<◌, ◌≤◌, ◌-◌, suc, [], sym, ap, ◌∙◌, subst, length, get_or, take, arith, rules, vec_len}
use Rattle.lower_expressions.specs.Building.{structs_in}
use Rattle.lower_tables.specs.Tables.{layouts_read, starts}
use Rattle.lower_tables.proofs.CodeOffsets.{laid, starts_at, starts_end, starts_long, table_at, table_long}
use Rattle.lower_expressions.proofs.place_code.field_offset.Goals as goal

pub overflow_sub-len : goal.overflow_sub-len
overflow_sub-len c =
    let x = c.args.context.now in
    let n = length (structs_in x) in
    let found = c.in-Some.ensures.lookup.3 in
    let part : c.in-Some.starts.now.items ≡ starts n x.singles.now (layouts_read x.layouts.now) 0 (get_or (structs_in x) c.args.number []) = table_at n x.singles.now (layouts_read x.layouts.now) x.offsets.now (structs_in x) c.args.number c.in-Some.starts.now x.placed found.0 (found.1 c.in-Some.starts.now) in
    omega (arith, ap length part, starts_long n x.singles.now (layouts_read x.layouts.now) 0 (get_or (structs_in x) c.args.number []), c.in-Some.starts.now.ok.0)

pub index-requires : goal.index-requires
index-requires c =
    let x = c.args.context.now in
    let n = length (structs_in x) in
    let found = c.in-Some.ensures.lookup.3 in
    let part : c.in-Some.starts.now.items ≡ starts n x.singles.now (layouts_read x.layouts.now) 0 (get_or (structs_in x) c.args.number []) = table_at n x.singles.now (layouts_read x.layouts.now) x.offsets.now (structs_in x) c.args.number c.in-Some.starts.now x.placed found.0 (found.1 c.in-Some.starts.now) in
    omega (arith, ap length part, starts_long n x.singles.now (layouts_read x.layouts.now) 0 (get_or (structs_in x) c.args.number []), c.in-Some.starts.now.ok.0)

pub returns-in-Some-get : goal.returns-in-Some-get
returns-in-Some-get c =
    let x = c.args.context.now in
    let n = length (structs_in x) in
    let ls = layouts_read x.layouts.now in
    let ts = get_or (structs_in x) c.args.number [] in
    let found = c.in-Some.ensures.lookup.3 in
    let part : c.in-Some.starts.now.items ≡ starts n x.singles.now ls 0 ts = table_at n x.singles.now ls x.offsets.now (structs_in x) c.args.number c.in-Some.starts.now x.placed found.0 (found.1 c.in-Some.starts.now) in
    let here = c.in-Some-get.ensures.lookup.3 in
    let row : c.deref.result.now ≡ starts n x.singles.now ls 0 ts = c.deref.ensures.value ∙ part in
    let within : c.args.field ≤ length ts = omega (arith, here.0, ap length row, starts_long n x.singles.now ls 0 ts) in
    here.1 c.in-Some-get.start.now ∙ ap (λ xs. get_or xs c.args.field c.in-Some-get.start.now) row ∙ starts_at n x.singles.now ls 0 ts c.args.field c.in-Some-get.start.now within
    ∙ laid n x.singles.now ls _ (take c.args.field ts) x.laid_out

pub returns-in-None : goal.returns-in-None
returns-in-None c =
    let x = c.args.context.now in
    let n = length (structs_in x) in
    let ls = layouts_read x.layouts.now in
    let ts = get_or (structs_in x) c.args.number [] in
    let found = c.in-Some.ensures.lookup.3 in
    let part : c.in-Some.starts.now.items ≡ starts n x.singles.now ls 0 ts = table_at n x.singles.now ls x.offsets.now (structs_in x) c.args.number c.in-Some.starts.now x.placed found.0 (found.1 c.in-Some.starts.now) in
    let past = c.in-None.ensures.lookup.3 in
    let row : c.deref.result.now ≡ starts n x.singles.now ls 0 ts = c.deref.ensures.value ∙ part in
    let long = starts_long n x.singles.now ls 0 ts in
    let behind : length ts < c.args.field = omega (arith, past, ap length row, long) in
    let last : c.len.result - 1 ≡ length ts = omega (arith, c.in-Some.starts.now.ok.0, ap length part, long) in
    c.index.ensures ∙ ap (λ xs. get_or xs (c.len.result - 1) c.index.result.now) part ∙ ap (λ k. get_or (starts n x.singles.now ls 0 ts) k c.index.result.now) last
    ∙ starts_end n x.singles.now ls ts c.args.field c.index.result.now behind
    ∙ laid n x.singles.now ls _ (take c.args.field ts) x.laid_out
