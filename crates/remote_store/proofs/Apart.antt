-- A lie that is told has another header than the last write, and so it is one that an honest store may give.
use Rattle.std.proofs.Common.{◌≡◌, ◌≢◌, ℕ, ◌==◌, ◌&&◌, Bool, true, false, not, cond, List, [], ◌∷◌, length, take, nat_lt, refl, sym, ap, ◌∙◌, subst}
use Rattle.std.specs.Prelude.{Option, Some, None, slice_set}
use Rattle.remote_store.specs.Lies.{is_told, kept_behind, lie_words, may_stand, same_header, told}
use Rattle.remote_store.specs.declared.lying.Lie.{Lie}
use Rattle.remote_store.specs.declared.lying.Lie.TheVariants as L

both : (a b : Bool) → a && b ≡ true → (a ≡ true) × (b ≡ true)
both true true e = (refl, refl)
both true false e = absurd (let no : ⊥ = cc in no)
both false b e = absurd (let no : ⊥ = cc in no)

not_false : (a : Bool) → not a ≡ true → a ≡ false
not_false true e = absurd (let no : ⊥ = cc in no)
not_false false e = refl

kept_case : (b : Bool) (us ws : List ℕ) → cond b (Some us) None ≡ Some ws → (b ≡ true) × (us ≡ ws)
kept_case true us ws e = (refl, (let same : us ≡ ws = cc in same))
kept_case false us ws e = absurd (let no : ⊥ = cc in no)

-- what the cell keeps is what the store below keeps there, with the header of the last write
pub kept_told : (last : List ℕ) (held : Option (List ℕ)) (ws : List ℕ) → kept_behind last held ≡ Some ws → (held ≡ Some ws) × (same_header ws last ≡ true)
kept_told last None ws e = absurd (let no : ⊥ = cc in no)
kept_told last (Some us) ws e =
    let c = kept_case (same_header us last) us ws e in
    (ap (λ (xs : List ℕ). Some xs) c.1, subst (λ (xs : List ℕ). same_header xs last ≡ true) c.1 c.0)

-- a header is that of the three first words
of_three : (row last : List ℕ) → same_header row last ≡ same_header (take 3 row) last
of_three [] last = refl
of_three (x ∷ []) last = refl
of_three (x ∷ y ∷ []) last = refl
of_three (x ∷ y ∷ z ∷ rest) last = refl

stands_apart : (last other given ws : List ℕ) → may_stand last other given ≡ true → same_header ws last ≡ true → take 3 other ≢ take 3 ws
stands_apart last other given ws stands kept = λ same.
    let apart : same_header other last ≡ false = not_false (same_header other last) (both (length other == length given) (not (same_header other last)) stands).1 in
    let alike : same_header other last ≡ same_header ws last = of_three other last ∙ ap (λ (xs : List ℕ). same_header xs last) same ∙ sym (of_three ws last) in
    let clash : true ≡ false = sym kept ∙ sym alike ∙ apart in
    cc

told_stands : (lie : Lie) (last older met given : List ℕ) → is_told lie last older met given ≡ true → may_stand last (lie_words lie older met given) given ≡ true
told_stands L.OlderVersion last older met given e = e
told_stands L.OtherObject last older met given e = (both _ (may_stand last met given) e).1
told_stands L.ShortCell last older met given e = (both (nat_lt 2 (length given)) (may_stand last (slice_set given 2 10) given) e).1

-- a lie that is told has another header than what the cell keeps
pub apart : (lie : Lie) (last older met given row ws : List ℕ) (held : Option (List ℕ)) → is_told lie last older met given ≡ true → row ≡ told lie last older met given → kept_behind last held ≡ Some ws → take 3 row ≢ take 3 ws
apart lie last older met given row ws held lies is kept =
    let words : row ≡ lie_words lie older met given = is ∙ ap (λ (b : Bool). cond b (lie_words lie older met given) given) lies in
    subst (λ (xs : List ℕ). take 3 xs ≢ take 3 ws) (sym words) (stands_apart last (lie_words lie older met given) given ws (told_stands lie last older met given lies) (kept_told last held ws kept).1)

-- where no lie is told, what was given stays
pub stays : (lie : Lie) (last older met given row : List ℕ) → is_told lie last older met given ≡ false → row ≡ told lie last older met given → given ≡ row
stays lie last older met given row lies is = sym (is ∙ ap (λ (b : Bool). cond b (lie_words lie older met given) given) lies)
