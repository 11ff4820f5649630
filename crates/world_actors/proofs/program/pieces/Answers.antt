use Rattle.std.proofs.Common.{◌≡◌, ◌≢◌, ℕ, ◌+◌, ◌-◌, ◌*◌, ◌/◌, ◌%◌, ◌<◌, ap, sym, ◌∙◌, arith}
use Rattle.std.proofs.lemmas.Nat.{div-mul-add}
use Rattle.world_actors.proofs.program.pieces.Goals as goal
use Rattle.world_actors.proofs.program.pieces.Goals.{then-cells-size-eq0, else-cells-size-eq0}

even : (n c : ℕ) → 0 < n → c % n ≡ 0 → c / n + 0 ≡ (c + (n - 1)) / n
even n c some e =
    let same : c + (n - 1) ≡ c / n * n + (n - 1) = omega arith in
    let whole = div-mul-add (c / n) n (n - 1) (omega arith) in
    omega (arith, ap (λ (x : ℕ). x / n) same, whole)

odd : (n c : ℕ) → 0 < n → c % n ≢ 0 → c / n + 1 ≡ (c + (n - 1)) / n
odd n c some d =
    let same : c + (n - 1) ≡ (c / n + 1) * n + (c % n - 1) = omega arith in
    sym (ap (λ (x : ℕ). x / n) same ∙ div-mul-add (c / n + 1) n (c % n - 1) (omega arith))

pub returns-clause-value : goal.returns-clause-value
returns-clause-value c = elim c.if-cells-size-eq0.branch [
  | then-cells-size-eq0 w ↦ ap (λ (x : ℕ). c.args.cells / c.args.size + x) w.result-is ∙ even c.args.size c.args.cells (omega arith) w.if-cells-size-eq0.true
  | else-cells-size-eq0 w ↦ ap (λ (x : ℕ). c.args.cells / c.args.size + x) w.result-is ∙ odd c.args.size c.args.cells (omega arith) w.if-cells-size-eq0.false
]
