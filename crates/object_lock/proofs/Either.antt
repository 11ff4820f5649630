-- Steps that an owner with a hold and a mover without make alike.
use Rattle.std.proofs.Common.{◌≡◌, ℕ, zero, suc, ◌+◌, ◌%◌, ◌<◌, ◌≤◌, List, [], ◌∷◌, ◌++◌, Bool, true, not, sym, ap, subst, ne_eqb, arith, eqb}
use Rattle.std.specs.Prelude.{Some, None, slice_index, ◌==◌}
use mathlib.Core.Option as maybe
use native.Mathlib.Decide.{dec_le}
use prog.Atomic.{either}
use Rattle.atomic_table.specs.Table.{Me, Act, Valid, rest, step, stepped, carried_after, Allows}
use Rattle.pointer_word.specs.Words.{Coming, face, arrival}
use Rattle.pointer_word.specs.Calls.{Begins, Filled}
use Rattle.object_lock.specs.Seats.{Sizes, View, Owns, note}
use Rattle.object_lock.specs.Rule.{LoggedRule}
use Rattle.object_lock.specs.Logs.{Seated, kept_of}
use Rattle.object_lock.specs.Logging.{logs_begin_any, logs_arrive_any}
use Rattle.object_lock.specs.Plays.{mine, Holds, IsUnheld}
use Rattle.object_lock.proofs.Mover.{begins, arrives}
use Rattle.object_lock.proofs.Own.{begins_own, arrives_own}

-- whether the seat has a hold of the object
pub has_hold : (v : View) (o : ℕ) → Dec (Holds v o)
has_hold v o = go (dec_le v.low o) (dec_le (suc o) v.high) (dec_le 1 (note v o).count)
  where
    go : Dec (v.low ≤ o) → Dec (suc o ≤ v.high) → Dec (1 ≤ (note v o).count) → Dec (Holds v o)
    go (no d) _ _ = no (λ h. d h.0.0)
    go (yes a) (no d) _ = no (λ h. d h.0.1)
    go (yes a) (yes b) (no d) = no (λ h. d h.1)
    go (yes a) (yes b) (yes c) = yes ((a, b), c)

module _ {S : Type 0} (kept : S → ℕ → List ℕ → Type 0) (there : S → Type 0) (honest : Type 0) (z : Sizes) where
  abbrev M : Type 0
  M = Me S Seated

  pub begins_any : (slots id : ℕ) (me : M) (o c new : ℕ) → o < z.objects → (0 < c → Owns me.0.view o × (0 < (note me.0.view o).count)) → c < 65536 → me.0.view.hand.bringing ≡ None → new ≡ face (Coming me.0.view.number) c
      → Allows (LoggedRule kept there honest z) slots id me o (λ n. either (eqb n c) new n) (logs_begin_any honest kept there (step slots o c new maybe.none) me)
  begins_any slots id me o zero new near own low empty is_new s r wide at bound =
      let d = begins kept there honest z slots id me o 0 new near low empty is_new s r wide at bound in
      (d.0, d.1, d.2, d.3, (((λ l. absurd (omega arith)), (λ _. d.4.0)), d.4.1))
  begins_any slots id me o (suc c) new near own low empty is_new s r wide at bound =
      let h = own (omega arith) in let d = begins_own kept there honest z slots id me o (suc c) new h.0 h.1 low empty is_new s r wide at bound in
      let own_is : true ≡ not (suc c == 0) = sym (ap not (ne_eqb (suc c) 0 (λ e. cc))) in
      (d.0, d.1, d.2, d.3, (((λ _. d.4.0), (λ e. absurd (omega arith))), subst (λ (b : Bool). d.0.log ≡ me.0.log ++ kept_of (record { word = o; found = slice_index s.words o; calls = Begins me.0.view.number o (suc c) b ∷ [] })) own_is d.4.1))

  pub arrives_any : (slots id : ℕ) (me : M) (o f by : ℕ) (b : S)
      → me.0.view.hand.bringing ≡ Some o → me.0.view.hand.claimed ≡ Some f → Filled honest z.cells me.0.view.hand
      → me.1 ≡ (o, b) ∷ rest me.1 → kept b o me.0.view.hand.promised → by ≡ arrival me.0.view.number (mine me.0.view)
      → Allows (LoggedRule kept there honest z) slots id me o (λ n. (n + by) % 18446744073709551616) (logs_arrive_any honest kept there (step slots o by 0 maybe.none) me)
  arrives_any slots id me o f by b has claims filled carries keeps_ws is_by s r wide at bound = go (has_hold me.0.view o)
    where
      go : Dec (Holds me.0.view o) → (w : Seated) × (a : Act S) × Valid s.homes me.1 a × LoggedRule kept there honest z (stepped s o ((slice_index s.words o + by) % 18446744073709551616) id me.1 w a)
          × logs_arrive_any honest kept there (step slots o by 0 maybe.none) me (slice_index s.words o) (w, carried_after me.1 a)
      go (yes h) =
          let d = arrives_own kept there honest z slots id me o f by b h.0 h.1 has claims filled carries keeps_ws is_by s r wide at bound in
          let clash : IsUnheld me.0.view o → ⊥ = λ none. let e = none h.0 in let l = h.1 in omega arith in (d.0, d.1, d.2, d.3, (((λ _. d.4.0), (λ none. absurd (clash none))), (λ _. d.4.1), (λ none. absurd (clash none))))
      go (no n) =
          let d = arrives kept there honest z slots id me o f by b has claims filled carries keeps_ws is_by s r wide at bound in
          (d.0, d.1, d.2, d.3, (((λ h. absurd (n h)), (λ _. d.4.0)), (λ h. absurd (n h)), (λ _. d.4.1)))
