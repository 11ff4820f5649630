-- What one more instruction and one more block add.
use Rattle.std.proofs.Common.{◌≡◌, ℕ, zero, suc, ◌+◌, ◌<◌, Bool, true, false, cond, inl, inr, List, [], ◌∷◌, ◌++◌, length, refl, sym, ap, ◌∙◌, arith, append_assoc, length-append}
use Rattle.std.specs.Prelude.{map, reverse, slice_set}
use Rattle.std.proofs.Math.Seq.{set-append_seam}
use Rattle.std.specs.declared.vec.Vec.{Vec}
use Rattle.std.specs.declared.alloc.Global.{Global}
use Rattle.std.proofs.lemmas.List.{reverse-append, map-append}
use Rattle.code_form.specs.declared.form.Instruction.{Instruction as RustInstruction}
use Rattle.code_form.specs.Form.{Instruction, Jump, Branch, instruction_of}
use Rattle.middle_form.specs.Scoped.{Code, Then, Choose, Loop}
use Rattle.codegen.specs.Building.{back, backs}
use Rattle.codegen.specs.Generated.{count, extra, first, is_passed, onward, target, tested}
use Rattle.codegen.proofs.Generates.{Led, led, length-extra}

pub back_push : (is : List RustInstruction) (i : RustInstruction) → back (is ++ i ∷ []) ≡ instruction_of i ∷ back is
back_push is i = ap reverse (map-append instruction_of is (i ∷ [])) ∙ reverse-append (map instruction_of is) (instruction_of i ∷ [])

pub map_reverse : {A B : Type 0} (f : A → B) (xs : List A) → map f (reverse xs) ≡ reverse (map f xs)
map_reverse f [] = refl
map_reverse {A} {B} f (x ∷ xs) =
    ap (map f) (reverse-append (x ∷ []) xs) ∙ map-append f (reverse xs) (x ∷ [])
    ∙ ap (λ (l : List B). l ++ f x ∷ []) (map_reverse f xs) ∙ sym (reverse-append (f x ∷ []) (map f xs))

pub backs_push : (bs : List (Vec RustInstruction Global)) (b : Vec RustInstruction Global) → backs (bs ++ b ∷ []) ≡ backs bs ++ back b.items ∷ []
backs_push bs b = map-append (λ (x : Vec RustInstruction Global). back x.items) bs (b ∷ [])

pub length_backs : (bs : List (Vec RustInstruction Global)) → length (backs bs) ≡ length bs
length_backs [] = refl
length_backs (b ∷ bs) = ap suc (length_backs bs)

abbrev Blocks : Type 0
Blocks = List (List Instruction)

length_extra : (s : Code) (b n : ℕ) (next : List Instruction) (ex : List (List Instruction)) (old new : Blocks) → b ≡ length old → new ≡ old ++ extra s n next ex → length new ≡ b + count s
length_extra s b n next ex old new e h = ap length h ∙ length-append old (extra s n next ex) ∙ ap (λ k. k + length (extra s n next ex)) (sym e) ∙ ap (λ k. b + k) (length-extra s n next ex)

length_push : (b : ℕ) (x : List Instruction) (old new : Blocks) → b ≡ length old → new ≡ old ++ x ∷ [] → length new ≡ suc b
length_push b x old new e h = ap length h ∙ length-append old (x ∷ []) ∙ (let z : length old + 1 ≡ suc b = omega arith in z)

pub then_first : (k a d : Code) (ex : List (List Instruction)) (old m : Blocks) (nx rest is : List Instruction) → k ≡ Then a d → rest ≡ first d (length old) nx ex → m ≡ old ++ extra d (length old) nx ex → is ≡ first a (length m) rest ex → is ≡ first k (length old) nx ex
then_first k a d ex old m nx rest is ek er em ei =
    ei ∙ ap (λ n. first a n rest ex) (length_extra d (length old) (length old) nx ex old m refl em)
    ∙ ap (λ r. first a (length old + count d) r ex) er ∙ ap (λ c. first c (length old) nx ex) (sym ek)

pub then_added : (k a d : Code) (ex : List (List Instruction)) (old m new : Blocks) (nx rest : List Instruction) → k ≡ Then a d → rest ≡ first d (length old) nx ex → m ≡ old ++ extra d (length old) nx ex → new ≡ m ++ extra a (length m) rest ex → new ≡ old ++ extra k (length old) nx ex
then_added k a d ex old m new nx rest ek er em en =
    en ∙ ap (λ n. m ++ extra a n rest ex) (length_extra d (length old) (length old) nx ex old m refl em)
    ∙ ap (λ r. m ++ extra a (length old + count d) r ex) er
    ∙ ap (λ l. l ++ extra a (length old + count d) (first d (length old) nx ex) ex) em
    ∙ append_assoc old (extra d (length old) nx ex) (extra a (length old + count d) (first d (length old) nx ex) ex)
    ∙ ap (λ c. old ++ extra c (length old) nx ex) (sym ek)

regroup : (o a c : Blocks) (n f g : List Instruction) → ((((o ++ n ∷ []) ++ a) ++ f ∷ []) ++ c) ++ g ∷ [] ≡ o ++ (n ∷ (a ++ (f ∷ (c ++ g ∷ []))))
regroup o a c n f g = simp append_assoc

-- a branch leads where it would by how to go on at its block
target_onward : (b : ℕ) (is : List Instruction) → target b (onward b is) ≡ target b is
target_onward b is = by (is_passed is) (led is) refl
  where
    by : (passed : Bool) → Led is → is_passed is ≡ passed → target b (cond passed is (Jump b ∷ [])) ≡ target b is
    by true z h = refl
    by false (inl (k, e)) h = absurd (let never : true ≡ false = sym (ap is_passed e) ∙ h in cc never)
    by false (inr (t, p)) h = sym (t b)

-- where it leads is known by the number of its block and how to go on there
side_at : (y number n : ℕ) (way is js : List Instruction) → y ≡ target number way → number ≡ n → way ≡ onward n is → is ≡ js → y ≡ target n js
side_at y number n way is js ey en ew ei =
    ey ∙ ap (λ (k : ℕ). target k way) en ∙ ap (target n) ew ∙ target_onward n is ∙ ap (target n) ei

-- a choice: what follows, the first side's blocks and its first, the second side's
pub choose_added : (k a d : Code) (r : ℕ) (ex : List (List Instruction)) (old m1 m2 m3 m4 m5 : Blocks) (nx ea fa ed fd way : List Instruction) → k ≡ Choose r a d → way ≡ onward (length old) nx → m1 ≡ old ++ nx ∷ [] → ea ≡ way → m2 ≡ m1 ++ extra a (length m1) ea ex → fa ≡ first a (length m1) ea ex → m3 ≡ m2 ++ fa ∷ []
    → ed ≡ way → m4 ≡ m3 ++ extra d (length m3) ed ex → fd ≡ first d (length m3) ed ex → m5 ≡ m4 ++ fd ∷ [] → m5 ≡ old ++ extra k (length old) nx ex
choose_added k a d r ex old m1 m2 m3 m4 m5 nx ea fa ed fd way ek ew e1 h2 e2 f2 e3 h4 e4 f4 e5 =
    let b = length old in
    let j = onward b nx in
    let n1 : length m1 ≡ suc b = length_push b nx old m1 refl e1 in
    let n2 : length m2 ≡ suc b + count a = length_extra a (suc b) (length m1) ea ex m1 m2 (sym n1) e2 in
    let n3 : length m3 ≡ suc (suc b + count a) = length_push (suc b + count a) fa m2 m3 (sym n2) e3 in
    let ja : ea ≡ j = h2 ∙ ew in
    let jd : ed ≡ j = h4 ∙ ew in
    let xa : extra a (length m1) ea ex ≡ extra a (suc b) j ex = ap (λ n. extra a n ea ex) n1 ∙ ap (λ i. extra a (suc b) i ex) ja in
    let xd : extra d (length m3) ed ex ≡ extra d (suc (suc b + count a)) j ex = ap (λ n. extra d n ed ex) n3 ∙ ap (λ i. extra d (suc (suc b + count a)) i ex) jd in
    let ya : fa ≡ first a (suc b) j ex = f2 ∙ ap (λ n. first a n ea ex) n1 ∙ ap (λ i. first a (suc b) i ex) ja in
    let yd : fd ≡ first d (suc (suc b + count a)) j ex = f4 ∙ ap (λ n. first d n ed ex) n3 ∙ ap (λ i. first d (suc (suc b + count a)) i ex) jd in
    let s2 : m2 ≡ (old ++ nx ∷ []) ++ extra a (suc b) j ex = e2 ∙ ap (λ l. l ++ extra a (length m1) ea ex) e1 ∙ ap (λ l. (old ++ nx ∷ []) ++ l) xa in
    let s3 : m3 ≡ ((old ++ nx ∷ []) ++ extra a (suc b) j ex) ++ first a (suc b) j ex ∷ [] = e3 ∙ ap (λ l. l ++ fa ∷ []) s2 ∙ ap (λ l. ((old ++ nx ∷ []) ++ extra a (suc b) j ex) ++ l ∷ []) ya in
    let s4 : m4 ≡ (((old ++ nx ∷ []) ++ extra a (suc b) j ex) ++ first a (suc b) j ex ∷ []) ++ extra d (suc (suc b + count a)) j ex = e4 ∙ ap (λ l. l ++ extra d (length m3) ed ex) s3 ∙ ap (λ l. (((old ++ nx ∷ []) ++ extra a (suc b) j ex) ++ first a (suc b) j ex ∷ []) ++ l) xd in
    e5 ∙ ap (λ l. l ++ fd ∷ []) s4 ∙ ap (λ l. ((((old ++ nx ∷ []) ++ extra a (suc b) j ex) ++ first a (suc b) j ex ∷ []) ++ extra d (suc (suc b + count a)) j ex) ++ l ∷ []) yd
    ∙ regroup old (extra a (suc b) j ex) (extra d (suc (suc b + count a)) j ex) nx (first a (suc b) j ex) (first d (suc (suc b + count a)) j ex)
    ∙ ap (λ c. old ++ extra c b nx ex) (sym ek)

pub choose_first : (k a d : Code) (r : ℕ) (ex : List (List Instruction)) (old m1 m2 m3 m4 : Blocks) (nx ea fa ed fd is way wa wd : List Instruction) (ya na yd nd : ℕ) → k ≡ Choose r a d → way ≡ onward (length old) nx → m1 ≡ old ++ nx ∷ [] → ea ≡ way → m2 ≡ m1 ++ extra a (length m1) ea ex → fa ≡ first a (length m1) ea ex
    → na ≡ length m2 → wa ≡ onward (length m2) fa → m3 ≡ m2 ++ fa ∷ [] → ed ≡ way → m4 ≡ m3 ++ extra d (length m3) ed ex → fd ≡ first d (length m3) ed ex → nd ≡ length m4 → wd ≡ onward (length m4) fd → ya ≡ target na wa → yd ≡ target nd wd → is ≡ Branch r ya yd ∷ [] → is ≡ first k (length old) nx ex
choose_first k a d r ex old m1 m2 m3 m4 nx ea fa ed fd is way wa wd ya na yd nd ek ew e1 h2 e2 f2 na_is wa_is e3 h4 e4 f4 nd_is wd_is ya_is yd_is ei =
    let b = length old in
    let j = onward b nx in
    let n1 : length m1 ≡ suc b = length_push b nx old m1 refl e1 in
    let n2 : length m2 ≡ suc b + count a = length_extra a (suc b) (length m1) ea ex m1 m2 (sym n1) e2 in
    let n3 : length m3 ≡ suc (suc b + count a) = length_push (suc b + count a) fa m2 m3 (sym n2) e3 in
    let n4 : length m4 ≡ suc (suc b + count a) + count d = length_extra d (suc (suc b + count a)) (length m3) ed ex m3 m4 (sym n3) e4 in
    let fa_is : fa ≡ first a (suc b) j ex = f2 ∙ ap (λ n. first a n ea ex) n1 ∙ ap (λ i. first a (suc b) i ex) (h2 ∙ ew) in
    let fd_is : fd ≡ first d (suc (suc b + count a)) j ex = f4 ∙ ap (λ n. first d n ed ex) n3 ∙ ap (λ i. first d (suc (suc b + count a)) i ex) (h4 ∙ ew) in
    let one : ya ≡ target (suc b + count a) (first a (suc b) j ex) = side_at ya na (length m2) wa fa (first a (suc b) j ex) ya_is na_is wa_is fa_is ∙ ap (λ n. target n (first a (suc b) j ex)) n2 in
    let other : yd ≡ target (suc (suc b + count a) + count d) (first d (suc (suc b + count a)) j ex) = side_at yd nd (length m4) wd fd (first d (suc (suc b + count a)) j ex) yd_is nd_is wd_is fd_is ∙ ap (λ n. target n (first d (suc (suc b + count a)) j ex)) n4 in
    ei ∙ ap (λ n. Branch r n yd ∷ []) one ∙ ap (λ n. Branch r (target (suc b + count a) (first a (suc b) j ex)) n ∷ []) other ∙ ap (λ c. first c b nx ex) (sym ek)

pub backs_set : (bs : List (Vec RustInstruction Global)) (i : ℕ) (b : Vec RustInstruction Global) → backs (slice_set bs i b) ≡ slice_set (backs bs) i (back b.items)
backs_set [] i b = refl
backs_set (x ∷ bs) zero b = refl
backs_set (x ∷ bs) (suc i) b = ap (λ (l : Blocks). back x.items ∷ l) (backs_set bs i b)

regroup_loop : (o a d : Blocks) (h n f : List Instruction) → ((((o ++ h ∷ []) ++ n ∷ []) ++ a) ++ f ∷ []) ++ d ≡ o ++ (h ∷ (n ∷ (a ++ (f ∷ d))))
regroup_loop o a d h n f = simp append_assoc

-- a loop: its head, written last; what follows; the body's blocks and its first; the test's blocks
pub loop_added : (k a d : Code) (r : ℕ) (ex : List (List Instruction)) (old m1 m2 m3 m4 m5 : Blocks) (x nx ea fa ed fd way wa : List Instruction) (head out body ya yo : ℕ) → k ≡ Loop d r a → head ≡ length old → m1 ≡ old ++ x ∷ [] → out ≡ length m1 → way ≡ onward (length m1) nx → m2 ≡ m1 ++ nx ∷ [] → ea ≡ Jump head ∷ []
    → m3 ≡ m2 ++ extra a (length m2) ea (way ∷ ex) → fa ≡ first a (length m2) ea (way ∷ ex) → body ≡ length m3 → wa ≡ onward (length m3) fa → m4 ≡ m3 ++ fa ∷ [] → ya ≡ target body wa → yo ≡ target out way → ed ≡ Branch r ya yo ∷ []
    → m5 ≡ m4 ++ extra d (length m4) ed (way ∷ ex) → fd ≡ first d (length m4) ed (way ∷ ex) → slice_set m5 head fd ≡ old ++ extra k (length old) nx ex
loop_added k a d r ex old m1 m2 m3 m4 m5 x nx ea fa ed fd way wa head out body ya yo ek eh e1 eo ew e2 h3 e3 f3 eb wa_is e4 ya_is yo_is h5 e5 f5 =
    let b = length old in
    let n1 : length m1 ≡ suc b = length_push b x old m1 refl e1 in
    let o1 : way ≡ onward (suc b) nx = ew ∙ ap (λ n. onward n nx) n1 in
    let n2 : length m2 ≡ suc (suc b) = length_push (suc b) nx m1 m2 (sym n1) e2 in
    let n3 : length m3 ≡ suc (suc b) + count a = length_extra a (suc (suc b)) (length m2) ea (way ∷ ex) m2 m3 (sym n2) e3 in
    let n4 : length m4 ≡ suc (suc (suc b) + count a) = length_push (suc (suc b) + count a) fa m3 m4 (sym n3) e4 in
    let i = Jump b ∷ [] in
    let j = tested r a b nx ex in
    let xs = onward (suc b) nx ∷ ex in
    let ia : ea ≡ i = h3 ∙ ap (λ n. Jump n ∷ []) eh in
    let xa : extra a (length m2) ea (way ∷ ex) ≡ extra a (suc (suc b)) i xs = ap (λ n. extra a n ea (way ∷ ex)) n2 ∙ ap (λ l. extra a (suc (suc b)) l (way ∷ ex)) ia ∙ ap (λ n. extra a (suc (suc b)) i (n ∷ ex)) o1 in
    let ya' : fa ≡ first a (suc (suc b)) i xs = f3 ∙ ap (λ n. first a n ea (way ∷ ex)) n2 ∙ ap (λ l. first a (suc (suc b)) l (way ∷ ex)) ia ∙ ap (λ n. first a (suc (suc b)) i (n ∷ ex)) o1 in
    let one : ya ≡ target (suc (suc b) + count a) (first a (suc (suc b)) i xs) = side_at ya body (length m3) wa fa (first a (suc (suc b)) i xs) ya_is eb wa_is ya' ∙ ap (λ n. target n (first a (suc (suc b)) i xs)) n3 in
    let other : yo ≡ target (suc b) nx = side_at yo out (length m1) way nx nx yo_is eo ew refl ∙ ap (λ n. target n nx) n1 in
    let jd : ed ≡ j = h5 ∙ ap (λ n. Branch r n yo ∷ []) one ∙ ap (λ n. Branch r (target (suc (suc b) + count a) (first a (suc (suc b)) i xs)) n ∷ []) other in
    let m = suc (suc (suc b) + count a) in
    let xd : extra d (length m4) ed (way ∷ ex) ≡ extra d m j xs = ap (λ n. extra d n ed (way ∷ ex)) n4 ∙ ap (λ l. extra d m l (way ∷ ex)) jd ∙ ap (λ n. extra d m j (n ∷ ex)) o1 in
    let yd : fd ≡ first d m j xs = f5 ∙ ap (λ n. first d n ed (way ∷ ex)) n4 ∙ ap (λ l. first d m l (way ∷ ex)) jd ∙ ap (λ n. first d m j (n ∷ ex)) o1 in
    let s2 : m2 ≡ (old ++ x ∷ []) ++ nx ∷ [] = e2 ∙ ap (λ l. l ++ nx ∷ []) e1 in
    let s3 : m3 ≡ ((old ++ x ∷ []) ++ nx ∷ []) ++ extra a (suc (suc b)) i xs = e3 ∙ ap (λ l. l ++ extra a (length m2) ea (way ∷ ex)) s2 ∙ ap (λ l. ((old ++ x ∷ []) ++ nx ∷ []) ++ l) xa in
    let s4 : m4 ≡ (((old ++ x ∷ []) ++ nx ∷ []) ++ extra a (suc (suc b)) i xs) ++ first a (suc (suc b)) i xs ∷ [] = e4 ∙ ap (λ l. l ++ fa ∷ []) s3 ∙ ap (λ l. (((old ++ x ∷ []) ++ nx ∷ []) ++ extra a (suc (suc b)) i xs) ++ l ∷ []) ya' in
    let s5 : m5 ≡ old ++ (x ∷ (nx ∷ (extra a (suc (suc b)) i xs ++ (first a (suc (suc b)) i xs ∷ extra d m j xs)))) = e5 ∙ ap (λ l. l ++ extra d (length m4) ed (way ∷ ex)) s4 ∙ ap (λ l. ((((old ++ x ∷ []) ++ nx ∷ []) ++ extra a (suc (suc b)) i xs) ++ first a (suc (suc b)) i xs ∷ []) ++ l) xd ∙ regroup_loop old (extra a (suc (suc b)) i xs) (extra d m j xs) x nx (first a (suc (suc b)) i xs) in
    let rest = nx ∷ (extra a (suc (suc b)) i xs ++ (first a (suc (suc b)) i xs ∷ extra d m j xs)) in
    ap (λ l. slice_set l head fd) s5 ∙ ap (λ n. slice_set (old ++ x ∷ rest) n fd) eh ∙ set-append_seam old x rest fd
    ∙ ap (λ l. old ++ l ∷ rest) yd ∙ ap (λ c. old ++ extra c b nx ex) (sym ek)

-- the head of a loop is there when all its blocks are
pub head_inside : (old m1 m2 m3 m4 m5 e3 e5 : Blocks) (x n f : List Instruction) (head : ℕ) → head ≡ length old → m1 ≡ old ++ x ∷ [] → m2 ≡ m1 ++ n ∷ [] → m3 ≡ m2 ++ e3 → m4 ≡ m3 ++ f ∷ [] → m5 ≡ m4 ++ e5 → head < length m5
head_inside old m1 m2 m3 m4 m5 e3 e5 x n f head h h1 h2 h3 h4 h5 =
    omega (arith, ap length h1, ap length h2, ap length h3, ap length h4, ap length h5, length-append old (x ∷ []), length-append m1 (n ∷ []), length-append m2 e3, length-append m3 (f ∷ []), length-append m4 e5)
