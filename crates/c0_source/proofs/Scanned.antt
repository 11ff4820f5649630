-- What is computed of a text is right.
use Rattle.std.proofs.Common.{◌≡◌, ℕ, zero, suc, ◌<◌, ◌≤◌, Bool, true, false, cond, List, [], ◌∷◌, length, take, drop, Option, Some, None, Err, refl, sym, subst, inl, inr, arith}
use Rattle.std.proofs.lemmas.Bool.{cases_lt}
use Rattle.std.proofs.lemmas.List.{length-drop}
use Rattle.c0_source.specs.declared.kind.Mode.{Mode}
use Rattle.c0_source.specs.declared.kind.Mode.TheVariants as m
use Rattle.c0_source.specs.declared.kind.Piece.{Piece}
use Rattle.c0_source.specs.declared.fault.FaultKind.TheVariants as f
use Rattle.c0_source.specs.Spelling.{piece_of, apart, Cut, after, Pieces, Leads, begins_comment, NoCut, extent}
use Rattle.c0_source.specs.Scanning.{or_shorter, longest_of, if_apart, cut_of, Scan, scan_by, scan, place_by, told, answer}
use Rattle.c0_source.specs.Laws.{Right}
use Rattle.c0_source.proofs.Once.{no_cut}

-- the longest piece of at most n bytes
record Longest (mode : Mode) (bytes : List ℕ) (n : ℕ) (x : ℕ × Piece) : Type 0 where
  some : 0 < x.0
  within : x.0 ≤ n
  shape : piece_of mode (take x.0 bytes) ≡ Some x.1
  longest : (i : ℕ) → x.0 < i → i ≤ n → piece_of mode (take i bytes) ≡ None

abbrev Whether : Mode → List ℕ → ℕ → Option (ℕ × Piece) → Type 0
Whether mode bytes n None = (i : ℕ) → 0 < i → i ≤ n → piece_of mode (take i bytes) ≡ None
Whether mode bytes n (Some x) = Longest mode bytes n x

at_most : (mode : Mode) (bytes : List ℕ) (n : ℕ) (o : Option Piece) (i : ℕ) → piece_of mode (take (suc n) bytes) ≡ None → (i ≤ n → piece_of mode (take i bytes) ≡ None) → i ≤ suc n → piece_of mode (take i bytes) ≡ None
at_most mode bytes n o i last before le =
    elim (cases_lt n i) [
      | inl lt ↦ let e : i ≡ suc n = omega arith in subst (λ (j : ℕ). piece_of mode (take j bytes) ≡ None) (sym e) last
      | inr below ↦ before below
    ]

whether_by : (mode : Mode) (bytes : List ℕ) (n : ℕ) (o : Option Piece) (shorter : Option (ℕ × Piece)) → piece_of mode (take (suc n) bytes) ≡ o → Whether mode bytes n shorter → Whether mode bytes (suc n) (or_shorter o (suc n) shorter)
whether_by mode bytes n (Some what) shorter e w = record { some = omega arith; within = omega arith; shape = e; longest = λ i lt le. absurd (omega arith) }
whether_by mode bytes n None None e w = λ i lt le. at_most mode bytes n None i e (λ below. w i lt below) le
whether_by mode bytes n None (Some x) e w = record { some = w.some; within = omega (arith, w.within); shape = w.shape; longest = λ i lt le. at_most mode bytes n None i e (λ below. w.longest i lt below) le }

whether : (mode : Mode) (bytes : List ℕ) (n : ℕ) → Whether mode bytes n (longest_of mode bytes n)
whether mode bytes zero = λ i lt le. absurd (omega arith)
whether mode bytes (suc n) = whether_by mode bytes n (piece_of mode (take (suc n) bytes)) (longest_of mode bytes n) refl (whether mode bytes n)

abbrev Cuts : Mode → List ℕ → Option (ℕ × Piece) → Type 0
Cuts mode bytes None = NoCut mode bytes
Cuts mode bytes (Some x) = Cut mode bytes x.0 x.1

same_size : (mode : Mode) (bytes : List ℕ) (x : ℕ × Piece) (n : ℕ) (what : Piece) → Longest mode bytes (length bytes) x → Cut mode bytes n what → x.0 ≡ n
same_size mode bytes x n what l c =
    elim (cases_lt x.0 n) [
      | inl lt ↦ absurd (let none = l.longest n lt c.within in let some = c.shape in cc)
      | inr le ↦ elim (cases_lt n x.0) [
        | inl lt ↦ absurd (let none = c.longest x.0 lt l.within in let some = l.shape in cc)
        | inr ge ↦ omega arith
      ]
    ]

same_piece : (o : Option Piece) (p q : Piece) → o ≡ Some p → o ≡ Some q → p ≡ q
same_piece o p q e f = cc

not_apart : (mode : Mode) (bytes : List ℕ) (x : ℕ × Piece) → Longest mode bytes (length bytes) x → apart x.1 (drop x.0 bytes) ≡ false → NoCut mode bytes
not_apart mode bytes x l e n what c =
    let size = same_size mode bytes x n what l c in
    let piece : x.1 ≡ what = same_piece (piece_of mode (take x.0 bytes)) x.1 what l.shape (subst (λ (i : ℕ). piece_of mode (take i bytes) ≡ Some what) (sym size) c.shape) in
    let stands : apart x.1 (drop x.0 bytes) ≡ true = subst (λ (w : Piece). apart w (drop x.0 bytes) ≡ true) (sym piece) (subst (λ (i : ℕ). apart what (drop i bytes) ≡ true) (sym size) c.stands) in
    cc

apart_by : (mode : Mode) (bytes : List ℕ) (x : ℕ × Piece) (b : Bool) → apart x.1 (drop x.0 bytes) ≡ b → Longest mode bytes (length bytes) x → Cuts mode bytes (cond b (Some x) None)
apart_by mode bytes x true e l = record { some = l.some; within = l.within; shape = l.shape; longest = λ i lt le. l.longest i lt le; stands = e }
apart_by mode bytes x false e l = not_apart mode bytes x l e

cuts_by : (mode : Mode) (bytes : List ℕ) (o : Option (ℕ × Piece)) → Whether mode bytes (length bytes) o → Cuts mode bytes (if_apart bytes o)
cuts_by mode bytes None w = λ n what c. let none = w n c.some c.within in let some = c.shape in cc
cuts_by mode bytes (Some x) w = apart_by mode bytes x (apart x.1 (drop x.0 bytes)) refl w

pub cuts : (mode : Mode) (bytes : List ℕ) → Cuts mode bytes (cut_of mode bytes)
cuts mode bytes = cuts_by mode bytes (longest_of mode bytes (length bytes)) (whether mode bytes (length bytes))

-- All of a text.

record Far (mode : Mode) (bytes : List ℕ) (s : Scan) : Type 0 where
  leads : Leads mode bytes s.pieces s.last s.rest
  stuck : NoCut s.last s.rest

short : (bytes : List ℕ) → length bytes ≤ 0 → bytes ≡ []
short [] le = refl
short (b ∷ bs) le = absurd (omega arith)

far_by : (n : ℕ) (mode : Mode) (bytes : List ℕ) (o : Option (ℕ × Piece)) → Cuts mode bytes o → ((next : Mode) (rest : List ℕ) → length rest ≤ n → Far next rest (scan n next rest)) → length bytes ≤ suc n → Far mode bytes (scan_by (scan n) mode bytes o)
far_by n mode bytes None dead ih le = record { leads = (refl, refl); stuck = dead }
far_by n mode bytes (Some x) c ih le =
    let l = length-drop x.0 bytes in
    let i = ih (after mode x.1) (drop x.0 bytes) (omega (arith, l, c.some, c.within)) in
    record { leads = (c, i.leads); stuck = i.stuck }

far : (n : ℕ) (mode : Mode) (bytes : List ℕ) → length bytes ≤ n → Far mode bytes (scan n mode bytes)
far zero mode bytes le = record { leads = (refl, refl); stuck = subst (NoCut mode) (sym (short bytes le)) (no_cut mode) }
far (suc n) mode bytes le = far_by n mode bytes (cut_of mode bytes) (cuts mode bytes) (λ next rest. far n next rest) le

comment_by : (bytes : List ℕ) (mode : Mode) (ps : Pieces) (rest : List ℕ) (b : Bool) → begins_comment rest ≡ b → 0 < length rest → Leads m.Plain bytes ps mode rest → NoCut mode rest
    → Right bytes (cond b (Err (f.OpenComment, place_by mode ps)) (Err (f.BadToken, extent ps)))
comment_by bytes mode ps rest false e lt leads dead = record { pieces = ps; last = mode; rest = rest; leads = leads; cause = (refl, lt, dead, e) }
comment_by bytes m.Block ps rest true e lt leads dead = record { pieces = ps; last = m.Block; rest = rest; leads = leads; cause = (refl, dead, λ _. e) }
comment_by bytes m.Plain ps rest true e lt leads dead = record { pieces = ps; last = m.Plain; rest = rest; leads = leads; cause = (refl, dead, e) }
comment_by bytes m.Line ps rest true e lt leads dead = record { pieces = ps; last = m.Line; rest = rest; leads = leads; cause = (refl, dead, e) }

right_by : (bytes : List ℕ) (mode : Mode) (ps : Pieces) (rest : List ℕ) → Leads m.Plain bytes ps mode rest → NoCut mode rest → Right bytes (told bytes mode ps rest)
right_by bytes m.Block ps [] leads dead = record { pieces = ps; last = m.Block; rest = []; leads = leads; cause = (refl, dead, λ lt. absurd (omega arith)) }
right_by bytes m.Plain ps [] leads dead = record { pieces = ps; last = m.Plain; leads = leads; ends = tt; tokens = refl }
right_by bytes m.Line ps [] leads dead = record { pieces = ps; last = m.Line; leads = leads; ends = tt; tokens = refl }
right_by bytes mode ps (b ∷ rest) leads dead = comment_by bytes mode ps (b ∷ rest) (begins_comment (b ∷ rest)) refl (omega arith) leads dead

-- each text spells tokens or has a fault, and that is what is computed
pub right : (bytes : List ℕ) → Right bytes (answer bytes)
right bytes =
    let s = scan (length bytes) m.Plain bytes in
    let h = far (length bytes) m.Plain bytes (omega arith) in
    right_by bytes s.last s.pieces s.rest h.leads h.stuck
