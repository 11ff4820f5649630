-- Reading undoes writing, and writing reading: of values one behind the other, of lists, and of what stands behind a tag.
use Rattle.std.proofs.Common.{◌≡◌, ℕ, zero, suc, ◌+◌, ◌<◌, ◌≤◌, Bool, true, false, cond, eqb, ltb, List, [], ◌∷◌, ◌++◌, length, take, drop, Result, Ok, Err, refl, sym, ap, subst, ◌∙◌, append_assoc, arith, inl, inr}
use Rattle.std.specs.Int.{w16, w32, from_le_bytes}
use Rattle.std.specs.List.{flat_map, AllByRecursion}
use Rattle.std.proofs.lemmas.Bool.{cases_lt, ltb-false, le-ltb, eqb-true}
use Rattle.std.proofs.lemmas.List.{take-append-drop, length-append, length-take, get_or-drop, get_or-take, get_or_past}
use Rattle.std.proofs.lemmas.List.Concat.{flat_map-cons}
use Rattle.std.proofs.lemmas.Nat.{le_bytes_2, le_bytes_4, from_le_bytes-to_le_bytes_2, from_le_bytes-to_le_bytes_4}
use Rattle.instruction_table.specs.declared.fault.ImageFault.{ImageFault}
use Rattle.instruction_table.specs.declared.fault.ImageFault.TheVariants.{Short}
use Rattle.image_bytes.specs.Bytes.{half, list_bytes, word}
use Rattle.image_bytes.specs.Encodable.{AreFew, IsByte, IsWord}
use Rattle.image_reader.specs.Laws.{IsBytes}
use Rattle.image_reader.specs.Reading.{◌>>=◌, Reading, behind, byte_at, given, half_at, items_at, list_at, mapped, number_at, pair_at, tagged, tested}

IsBytes-drop : (n : ℕ) (bytes : List ℕ) → IsBytes bytes → IsBytes (drop n bytes)
IsBytes-drop n bytes h i = rw get_or-drop (h (n + i))

IsBytes-take : (n : ℕ) (bytes : List ℕ) → IsBytes bytes → IsBytes (take n bytes)
IsBytes-take n bytes h i =
    elim (cases_lt i n) [
      | inl lt ↦ rw (get_or-take n bytes i 0 lt) (h i)
      | inr le ↦ rw (get_or_past (take n bytes) i 0 (omega (arith, length-take n bytes))) (omega arith)
    ]

pub IsBytes-rest : (b : ℕ) (bytes : List ℕ) → IsBytes (b ∷ bytes) → IsBytes bytes
IsBytes-rest b bytes h i = h (suc i)

-- the value of a step at which nothing is wrong
pub bind_ok : {A B : Type 0} (r : Result A ImageFault) (f : A → Result B ImageFault) (y : B) → (r >>= f) ≡ Ok y → (x : A) × (r ≡ Ok x) × (f x ≡ Ok y)
bind_ok (Ok x) f y e = (x, refl, e)
bind_ok (Err d) f y e = absurd cc

-- a test that held
pub chosen_ok : {A : Type 0} (b : Bool) (d : ImageFault) (x y : A) → cond b (Ok x) (Err d) ≡ Ok y → (b ≡ true) × (x ≡ y)
chosen_ok true d x y e = (refl, cc)
chosen_ok false d x y e = absurd cc

-- a test that did not hold
guard_ok : {A : Type 0} (b : Bool) (d : ImageFault) (x y : A) → cond b (Err d) (Ok x) ≡ Ok y → (b ≡ false) × (x ≡ y)
guard_ok true d x y e = absurd cc
guard_ok false d x y e = (refl, cc)

abbrev done : {A : Type 0} → A → Result A ImageFault
done x = Ok x

pub ok_is : {A : Type 0} (x y : A) → done x ≡ done y → x ≡ y
ok_is x y e = cc

-- what was taken from the front
pub record Takes (bytes text rest : List ℕ) : Type 0 where
  pub parts : bytes ≡ text ++ rest
  pub rest_fits : IsBytes rest

pub Takes-then : (a x b y c : List ℕ) → Takes a x b → Takes b y c → Takes a (x ++ y) c
Takes-then a x b y c p q = record { parts = p.parts ∙ ap (λ (t : List ℕ). x ++ t) q.parts ∙ sym (append_assoc x y c); rest_fits = q.rest_fits }

-- what is read was written so, and what was written so is read
pub record IsReader {A : Type 0} (r : Reading A) (write : A → List ℕ) (Fits : A → Type 0) : Type 0 where
  pub takes : (bytes : List ℕ) (x : A × List ℕ) → IsBytes bytes → r bytes ≡ Ok x → Takes bytes (write x.0) x.1 × Fits x.0
  pub again : (x : A) (rest : List ℕ) → Fits x → r (write x ++ rest) ≡ Ok (x, rest)

-- ---- bytes and numbers

byte_takes : (bytes : List ℕ) (x : ℕ × List ℕ) → IsBytes bytes → byte_at bytes ≡ Ok x → Takes bytes (x.0 ∷ []) x.1 × IsByte x.0
unfolding byte_at
byte_takes [] x fits e = absurd cc
byte_takes (b ∷ bytes) x fits e = subst (λ (y : ℕ × List ℕ). Takes (b ∷ bytes) (y.0 ∷ []) y.1 × IsByte y.0) (ok_is (b, bytes) x e) (record { parts = refl; rest_fits = IsBytes-rest b bytes fits }, fits 0)

pub byte_again : (b : ℕ) (rest : List ℕ) → byte_at (b ∷ rest) ≡ Ok (b, rest)
unfolding byte_at
byte_again b rest = refl

pub byte_reader : IsReader byte_at (λ b. b ∷ []) IsByte
byte_reader = record { takes = byte_takes; again = λ b rest fits. byte_again b rest }

number_takes : (bytes : List ℕ) (x : ℕ × List ℕ) → IsBytes bytes → number_at bytes ≡ Ok x → Takes bytes (word x.0) x.1 × IsWord x.0
unfolding number_at
number_takes bytes x fits e =
    let g = guard_ok (ltb (length bytes) 4) Short (from_le_bytes w32 (take 4 bytes), drop 4 bytes) x e in
    let long : 4 ≤ length bytes = ltb-false _ _ g.0 in
    let front-fits = IsBytes-take 4 bytes fits in
    let front : word (from_le_bytes w32 (take 4 bytes)) ≡ take 4 bytes = le_bytes_4 (take 4 bytes) (from_le_bytes w32 (take 4 bytes)) (omega (arith, length-take 4 bytes)) front-fits refl in
    let below : from_le_bytes w32 (take 4 bytes) < 4294967296 = omega (arith, front-fits 0, front-fits 1, front-fits 2, front-fits 3) in
    subst (λ (y : ℕ × List ℕ). Takes bytes (word y.0) y.1 × IsWord y.0) g.1
    (record { parts = sym (take-append-drop 4 bytes) ∙ ap (λ (t : List ℕ). t ++ drop 4 bytes) (sym front); rest_fits = IsBytes-drop 4 bytes fits }, below)

pub number_again : (n : ℕ) (rest : List ℕ) → IsWord n → number_at (word n ++ rest) ≡ Ok (n, rest)
unfolding number_at
number_again n rest lt =
    let long : ltb (length (word n ++ rest)) 4 ≡ false = le-ltb _ _ (omega (arith, length-append (word n) rest)) in
    ap (λ (short : Bool). cond short (Err Short) (Ok (from_le_bytes w32 (take 4 (word n ++ rest)), drop 4 (word n ++ rest)))) long
    ∙ ap (λ (m : ℕ). Ok (m, rest)) (from_le_bytes-to_le_bytes_4 n lt)

pub number_reader : IsReader number_at word IsWord
number_reader = record { takes = number_takes; again = number_again }

-- a number that two bytes hold
abbrev pub IsHalf : ℕ → Type 0
IsHalf n = n < 65536

half_takes : (bytes : List ℕ) (x : ℕ × List ℕ) → IsBytes bytes → half_at bytes ≡ Ok x → Takes bytes (half x.0) x.1 × IsHalf x.0
unfolding half_at
half_takes bytes x fits e =
    let g = guard_ok (ltb (length bytes) 2) Short (from_le_bytes w16 (take 2 bytes), drop 2 bytes) x e in
    let long : 2 ≤ length bytes = ltb-false _ _ g.0 in
    let front-fits = IsBytes-take 2 bytes fits in
    let front : half (from_le_bytes w16 (take 2 bytes)) ≡ take 2 bytes = le_bytes_2 (take 2 bytes) (from_le_bytes w16 (take 2 bytes)) (omega (arith, length-take 2 bytes)) front-fits refl in
    let below : from_le_bytes w16 (take 2 bytes) < 65536 = omega (arith, front-fits 0, front-fits 1) in
    subst (λ (y : ℕ × List ℕ). Takes bytes (half y.0) y.1 × IsHalf y.0) g.1
    (record { parts = sym (take-append-drop 2 bytes) ∙ ap (λ (t : List ℕ). t ++ drop 2 bytes) (sym front); rest_fits = IsBytes-drop 2 bytes fits }, below)

half_again : (n : ℕ) (rest : List ℕ) → IsHalf n → half_at (half n ++ rest) ≡ Ok (n, rest)
unfolding half_at
half_again n rest lt =
    let long : ltb (length (half n ++ rest)) 2 ≡ false = le-ltb _ _ (omega (arith, length-append (half n) rest)) in
    ap (λ (short : Bool). cond short (Err Short) (Ok (from_le_bytes w16 (take 2 (half n ++ rest)), drop 2 (half n ++ rest)))) long
    ∙ ap (λ (m : ℕ). Ok (m, rest)) (from_le_bytes-to_le_bytes_2 n lt)

pub half_reader : IsReader half_at half IsHalf
half_reader = record { takes = half_takes; again = half_again }

-- ---- values by others

pub given_reader : IsReader {A = Unit {0}} (given tt) (λ x. []) (λ x. Unit {0})
given_reader = record { takes = λ bytes x fits e. (record { parts = ap (λ (y : Unit {0} × List ℕ). y.1) (ok_is (tt, bytes) x e); rest_fits = subst (λ (y : Unit {0} × List ℕ). IsBytes y.1) (ok_is (tt, bytes) x e) fits }, tt); again = λ x rest fits. refl }

-- a value by another, where each comes of one other among those that fit
pub mapped_reader : {A B : Type 0} (r : Reading A) (write : A → List ℕ) (Fits : A → Type 0) (Others : B → Type 0) (f : A → B) (g : B → A) → ((a : A) → Fits a → (g (f a) ≡ a) × Others (f a)) → ((b : B) → Others b → (f (g b) ≡ b) × Fits (g b)) → IsReader r write Fits → IsReader (mapped f r) (λ b. write (g b)) Others
mapped_reader {A} {B} r write Fits Others f g forth back reader = record {
  takes = λ bytes x fits e.
      let a = bind_ok (r bytes) (λ y. Ok (f y.0, y.1)) x e in
      let t = reader.takes bytes a.0 fits a.1 in
      let one = forth a.0.0 t.1 in
      subst (λ (y : B × List ℕ). Takes bytes (write (g y.0)) y.1 × Others y.0) (ok_is (f a.0.0, a.0.1) x a.2) (subst (λ (y : A). Takes bytes (write y) a.0.1) (sym one.0) t.0, one.1);
  again = λ b rest fits. rw (reader.again (g b) rest (back b fits).1, (back b fits).0) refl;
}

-- what was written is read again, and then mapped
pub mapped_again : {A B : Type 0} (r : Reading A) (write : A → List ℕ) (Fits : A → Type 0) (f : A → B) → IsReader r write Fits → (a : A) (rest : List ℕ) → Fits a → mapped f r (write a ++ rest) ≡ Ok (f a, rest)
mapped_again r write Fits f reader a rest fits = rw (reader.again a rest fits) refl

pub tested_reader : {A : Type 0} (r : Reading A) (write : A → List ℕ) (Fits Holds : A → Type 0) (test : A → Bool) (fault : ImageFault) → ((a : A) → test a ≡ true → Holds a) → ((a : A) → Holds a → (test a ≡ true) × Fits a) → IsReader r write Fits → IsReader (tested test fault r) write Holds
tested_reader {A} r write Fits Holds test fault sound complete reader = record {
  takes = λ bytes x fits e.
      let a = bind_ok (r bytes) (λ y. cond (test y.0) (Ok y) (Err fault)) x e in
      let g = chosen_ok (test a.0.0) fault a.0 x a.2 in
      let t = reader.takes bytes a.0 fits a.1 in
      subst (λ (y : A × List ℕ). Takes bytes (write y.0) y.1 × Holds y.0) g.1 (t.0, sound a.0.0 g.0);
  again = λ x rest holds. rw (reader.again x rest (complete x holds).1, (complete x holds).0) refl;
}

pub pair_reader : {A B : Type 0} (p : Reading A) (write_p : A → List ℕ) (FitsP : A → Type 0) (q : Reading B) (write_q : B → List ℕ) (FitsQ : B → Type 0) → IsReader p write_p FitsP → IsReader q write_q FitsQ
    → IsReader (pair_at p q) (λ x. write_p x.0 ++ write_q x.1) (λ x. FitsP x.0 × FitsQ x.1)
pair_reader {A} {B} p write_p FitsP q write_q FitsQ first second = record {
  takes = λ bytes x fits e.
      let a = bind_ok (p bytes) (λ y. q y.1 >>= λ z. Ok ((y.0, z.0), z.1)) x e in
      let b = bind_ok (q a.0.1) (λ z. Ok ((a.0.0, z.0), z.1)) x a.2 in
      let t = first.takes bytes a.0 fits a.1 in
      let u = second.takes a.0.1 b.0 t.0.rest_fits b.1 in
      let both = Takes-then bytes (write_p a.0.0) a.0.1 (write_q b.0.0) b.0.1 t.0 u.0 in
      subst (λ (y : (A × B) × List ℕ). Takes bytes (write_p y.0.0 ++ write_q y.0.1) y.1 × (FitsP y.0.0 × FitsQ y.0.1)) (ok_is ((a.0.0, b.0.0), b.0.1) x b.2) (both, (t.1, u.1));
  again = λ x rest fits.
      ap (pair_at p q) (append_assoc (write_p x.0) (write_q x.1) rest) ∙ rw (first.again x.0 (write_q x.1 ++ rest) fits.0, second.again x.1 rest fits.1) refl;
}

-- the same, where what is written and what fits are said otherwise
pub same_reader : {A : Type 0} (r : Reading A) (write other : A → List ℕ) (Fits : A → Type 0) → ((a : A) → write a ≡ other a) → IsReader r write Fits → IsReader r other Fits
same_reader {A} r write other Fits same reader = record {
  takes = λ bytes x fits e.
      let t = reader.takes bytes x fits e in
      (subst (λ (text : List ℕ). Takes bytes text x.1) (same x.0) t.0, t.1);
  again = λ x rest fits. ap (λ (text : List ℕ). r (text ++ rest)) (sym (same x)) ∙ reader.again x rest fits;
}

-- ---- lists

items_take : {A : Type 0} (r : Reading A) (write : A → List ℕ) (Fits : A → Type 0) → IsReader r write Fits → (n : ℕ) (bytes : List ℕ) (x : List A × List ℕ) → IsBytes bytes → items_at r n bytes ≡ Ok x
    → Takes bytes (flat_map write x.0) x.1 × ((length x.0 ≡ n) × AllByRecursion Fits x.0)
unfolding items_at
items_take {A} r write Fits reader zero bytes x fits e =
    subst (λ (y : List A × List ℕ). Takes bytes (flat_map write y.0) y.1 × ((length y.0 ≡ 0) × AllByRecursion Fits y.0)) (ok_is ([], bytes) x e) (record { parts = refl; rest_fits = fits }, (refl, tt))
items_take {A} r write Fits reader (suc n) bytes x fits e =
    let a = bind_ok (r bytes) (λ first. items_at r n first.1 >>= λ others. Ok (first.0 ∷ others.0, others.1)) x e in
    let b = bind_ok (items_at r n a.0.1) (λ others. Ok (a.0.0 ∷ others.0, others.1)) x a.2 in
    let first = reader.takes bytes a.0 fits a.1 in
    let second = items_take r write Fits reader n a.0.1 b.0 first.0.rest_fits b.1 in
    let both = Takes-then bytes (write a.0.0) a.0.1 (flat_map write b.0.0) b.0.1 first.0 second.0 in
    let made : List A × List ℕ = (a.0.0 ∷ b.0.0, b.0.1) in
    subst (λ (y : List A × List ℕ). Takes bytes (flat_map write y.0) y.1 × ((length y.0 ≡ suc n) × AllByRecursion Fits y.0)) (ok_is made x b.2) (subst (λ (text : List ℕ). Takes bytes text b.0.1) (sym (flat_map-cons write a.0.0 b.0.0)) both, (ap suc second.1.0, (first.1, second.1.1)))

items_again : {A : Type 0} (r : Reading A) (write : A → List ℕ) (Fits : A → Type 0) → IsReader r write Fits → (xs : List A) (rest : List ℕ) → AllByRecursion Fits xs → items_at r (length xs) (flat_map write xs ++ rest) ≡ Ok (xs, rest)
unfolding items_at
items_again r write Fits reader [] rest fits = refl
items_again {A} r write Fits reader (x ∷ xs) rest fits =
    let regrouped : flat_map write (x ∷ xs) ++ rest ≡ write x ++ (flat_map write xs ++ rest) = ap (λ (t : List ℕ). t ++ rest) (flat_map-cons write x xs) ∙ append_assoc (write x) (flat_map write xs) rest in
    ap (items_at r (suc (length xs))) regrouped ∙ rw (reader.again x (flat_map write xs ++ rest) fits.0, items_again r write Fits reader xs rest fits.1) refl

list_takes : {A : Type 0} (r : Reading A) (write : A → List ℕ) (Fits : A → Type 0) → IsReader r write Fits → (bytes : List ℕ) (x : List A × List ℕ) → IsBytes bytes → list_at r bytes ≡ Ok x → Takes bytes (list_bytes write x.0) x.1 × AreFew Fits x.0
unfolding list_at
list_takes r write Fits reader bytes x fits e =
    let a = bind_ok (number_at bytes) (λ n. items_at r n.0 n.1) x e in
    let first = number_takes bytes a.0 fits a.1 in
    let second = items_take r write Fits reader a.0.0 a.0.1 x first.0.rest_fits a.2 in
    let both = Takes-then bytes (word a.0.0) a.0.1 (flat_map write x.0) x.1 first.0 second.0 in
    (subst (λ (n : ℕ). Takes bytes (word n ++ flat_map write x.0) x.1) (sym second.1.0) both, (omega (arith, second.1.0, first.1), second.1.1))

list_again : {A : Type 0} (r : Reading A) (write : A → List ℕ) (Fits : A → Type 0) → IsReader r write Fits → (xs : List A) (rest : List ℕ) → AreFew Fits xs → list_at r (list_bytes write xs ++ rest) ≡ Ok (xs, rest)
unfolding list_at
list_again r write Fits reader xs rest fits =
    rw (number_again (length xs) (flat_map write xs ++ rest) fits.0, items_again r write Fits reader xs rest fits.1) refl

pub list_reader : {A : Type 0} (r : Reading A) (write : A → List ℕ) (Fits : A → Type 0) → IsReader r write Fits → IsReader (list_at r) (list_bytes write) (AreFew Fits)
list_reader r write Fits reader = record { takes = list_takes r write Fits reader; again = list_again r write Fits reader }

-- ---- tags

-- what stands behind this tag was written so
abbrev pub CaseTakes : {A : Type 0} → (A → List ℕ) → (A → Type 0) → ℕ × Reading A → Type 0
CaseTakes {A} write Fits c = (bytes : List ℕ) (x : A × List ℕ) → IsBytes bytes → c.1 bytes ≡ Ok x → Takes (c.0 ∷ bytes) (write x.0) x.1 × Fits x.0

picked : {A : Type 0} (write : A → List ℕ) (Fits : A → Type 0) (tag n : ℕ) (bytes : List ℕ) (x : A × List ℕ) (test : Bool) (here others : Result (A × List ℕ) ImageFault) → (test ≡ true → tag ≡ n)
    → (here ≡ Ok x → Takes (n ∷ bytes) (write x.0) x.1 × Fits x.0) → (others ≡ Ok x → Takes (tag ∷ bytes) (write x.0) x.1 × Fits x.0) → cond test here others ≡ Ok x → Takes (tag ∷ bytes) (write x.0) x.1 × Fits x.0
picked write Fits tag n bytes x true here others told case rest e = subst (λ (t : ℕ). Takes (t ∷ bytes) (write x.0) x.1 × Fits x.0) (sym (told refl)) (case e)
picked write Fits tag n bytes x false here others told case rest e = rest e

behind_takes : {A : Type 0} (write : A → List ℕ) (Fits : A → Type 0) (cases : List (ℕ × Reading A)) → AllByRecursion (CaseTakes write Fits) cases → (tag : ℕ) (bytes : List ℕ) (x : A × List ℕ) → IsBytes bytes → behind cases tag bytes ≡ Ok x → Takes (tag ∷ bytes) (write x.0) x.1 × Fits x.0
behind_takes write Fits [] each tag bytes x fits e = absurd cc
behind_takes write Fits (c ∷ cases) each tag bytes x fits e =
    picked write Fits tag c.0 bytes x (eqb tag c.0) (c.1 bytes) (behind cases tag bytes) (eqb-true tag c.0) (each.0 bytes x fits) (behind_takes write Fits cases each.1 tag bytes x fits) e

pub tagged_takes : {A : Type 0} (write : A → List ℕ) (Fits : A → Type 0) (cases : List (ℕ × Reading A)) → AllByRecursion (CaseTakes write Fits) cases → (bytes : List ℕ) (x : A × List ℕ) → IsBytes bytes → tagged cases bytes ≡ Ok x → Takes bytes (write x.0) x.1 × Fits x.0
tagged_takes write Fits cases each bytes x fits e =
    let a = bind_ok (byte_at bytes) (λ tag. behind cases tag.0 tag.1) x e in
    let t = byte_takes bytes a.0 fits a.1 in
    let u = behind_takes write Fits cases each a.0.0 a.0.1 x t.0.rest_fits a.2 in
    (record { parts = t.0.parts ∙ u.0.parts; rest_fits = u.0.rest_fits }, u.1)

-- a value that its tag alone stands for
pub tag_alone : {A : Type 0} (write : A → List ℕ) (Fits : A → Type 0) (tag : ℕ) (a : A) → write a ≡ tag ∷ [] → Fits a → CaseTakes write Fits (tag, given a)
tag_alone {A} write Fits tag a text fits bytes x are e =
    subst (λ (y : A × List ℕ). Takes (tag ∷ bytes) (write y.0) y.1 × Fits y.0) (ok_is (a, bytes) x e) (record { parts = ap (λ (t : List ℕ). t ++ bytes) (sym text); rest_fits = are }, fits)

-- a value by what stands behind its tag
pub tag_before : {A B : Type 0} (r : Reading A) (write_r : A → List ℕ) (FitsR : A → Type 0) (write : B → List ℕ) (Fits : B → Type 0) (tag : ℕ) (f : A → B) → IsReader r write_r FitsR
    → ((a : A) → write (f a) ≡ tag ∷ write_r a) → ((a : A) → FitsR a → Fits (f a)) → CaseTakes write Fits (tag, mapped f r)
tag_before {A} {B} r write_r FitsR write Fits tag f reader text fit bytes x are e =
    let a = bind_ok (r bytes) (λ y. Ok (f y.0, y.1)) x e in
    let t = reader.takes bytes a.0 are a.1 in
    let whole : tag ∷ bytes ≡ write (f a.0.0) ++ a.0.1 = ap (λ (bs : List ℕ). tag ∷ bs) t.0.parts ∙ ap (λ (bs : List ℕ). bs ++ a.0.1) (sym (text a.0.0)) in
    subst (λ (y : B × List ℕ). Takes (tag ∷ bytes) (write y.0) y.1 × Fits y.0) (ok_is (f a.0.0, a.0.1) x a.2) (record { parts = whole; rest_fits = t.0.rest_fits }, fit a.0.0 t.1)
