-- The codes of files, one after the other.
use Rattle.std.proofs.Common.{◌≡◌, ◌∙◌, ◌<◌, ◌+◌, arith, ℕ, zero, suc, Bool, true, false, Bor, List, [], ◌∷◌, ◌++◌, ap, drop, get_or, inl, length, map, refl, sym, subst, take}
use Rattle.std.proofs.lemmas.List.{map-append, take_more}
use Rattle.std.specs.Prelude.{◌⊎◌, Option}
use Rattle.code_form.specs.Form.{Image, image_of}
use Rattle.command_line.specs.Shell.{Compiling, Replayed}
use Rattle.scope_verifier.specs.declared.acceptance.Verified.{Verified}
use Rattle.image_bytes.specs.Encodable.{IsEncodable}
use Rattle.c0_image_laws.specs.Laws.{ImagesAreEncodable}
use Rattle.c0far.specs.FileCode.{AreCodes, HoldsCode, HoldsImage, HoldsText, names_image}
use Rattle.command_files.specs.FileTexts.{Known}
use Rattle.c0far.specs.NoCode.{HasNoCode, LacksCode, LacksMemory}
use Rattle.c0far.specs.Replays.{Replays}
use Rattle.streams.specs.Streams.{Held, IsQuiet, Writes, writes}

held_fits : ImagesAreEncodable → (compiling : Compiling) (held : Known) (C : Image) (b : Bool) → elim b as (λ x. Type 0) [ true ↦ HoldsImage held C | false ↦ HoldsText compiling held C ] → IsEncodable C
held_fits law compiling held C true h = h.is.0
held_fits law compiling held C false h = law compiling.texts.loops h.text compiling.texts.checks compiling.piece C h.compiled

-- the code of a file can be written: an image that was read, as it was, and that of a text by the law
pub code_is_encodable : ImagesAreEncodable → (file : List ℕ) (compiling : Compiling) (held : Known) (C : Image) → HoldsCode file compiling held C → IsEncodable C
code_is_encodable law file compiling held C code = held_fits law compiling held C (names_image file) code

-- one file more
pub codes_more : (compiling : Compiling) (held : List ℕ → Known) (files : List (List ℕ)) (programs : List Verified) (file : List ℕ) (program : Verified) → AreCodes compiling held files programs
    → HoldsCode file compiling (held file) (image_of program.image) → AreCodes compiling held (files ++ file ∷ []) (programs ++ program ∷ [])
codes_more compiling held [] [] file program are code = (code, tt)
codes_more compiling held [] (v ∷ vs) file program are code = absurd are
codes_more compiling held (f ∷ fs) [] file program are code = absurd are
codes_more compiling held (f ∷ fs) (v ∷ vs) file program are code = (are.0, codes_more compiling held fs vs file program are.1 code)

-- ---- the files of a loop's turn

-- a file with those before it and those behind it
cut_at : (names : List (Bor (List ℕ))) (k : ℕ) (d : Bor (List ℕ)) → k < length names
    → map (λ (n : Bor (List ℕ)). n.now) names ≡ map (λ (n : Bor (List ℕ)). n.now) (take k names) ++ (get_or names k d).now ∷ map (λ (n : Bor (List ℕ)). n.now) (drop (suc k) names)
cut_at [] k d low = absurd (let no : ⊥ = omega arith in no)
cut_at (x ∷ xs) zero d low = refl
cut_at (x ∷ xs) (suc k) d low = let below : k < length xs = omega arith in ap (λ (r : List (List ℕ)). x.now ∷ r) (cut_at xs k d below)

-- the codes of the files up to this one
pub codes_at : (compiling : Compiling) (held seen : List ℕ → Known) (names : List (Bor (List ℕ))) (k : ℕ) (d : Bor (List ℕ)) (before programs : List Verified) (program : Verified) → k < length names
    → ((name : List ℕ) → seen name ≡ held name) → AreCodes compiling held (map (λ n. n.now) (take k names)) before → HoldsCode (get_or names k d).now compiling (seen (get_or names k d).now) (image_of program.image)
    → programs ≡ before ++ program ∷ [] → AreCodes compiling held (map (λ n. n.now) (take (k + 1) names)) programs
codes_at compiling held seen names k d before programs program low keeps are code items =
    let now : Bor (List ℕ) → List ℕ = λ n. n.now in
    let file : List ℕ = now (get_or names k d) in
    let so_far : map now (take (k + 1) names) ≡ map now (take k names) ++ file ∷ [] = ap (map now) (take_more names k d low) ∙ map-append now (take k names) (get_or names k d ∷ []) in
    let holds : HoldsCode file compiling (held file) (image_of program.image) = subst (λ (x : Known). HoldsCode file compiling x (image_of program.image)) (keeps file) code in
    subst (λ (fs : List (List ℕ)). AreCodes compiling held fs programs) (sym so_far)
    (subst (λ (vs : List Verified). AreCodes compiling held (map now (take k names) ++ file ∷ []) vs) (sym items) (codes_more compiling held (map now (take k names)) before file program are holds))

-- ---- the stream that is spoken to

module _ {S : Type 0} (contents : S → Option (List ℕ)) (failures : S → ℕ) where
  -- what becomes of a stream that was left alone before
  pub after_quiet : (old now new : S) → IsQuiet (writes contents failures old now) → writes contents failures now new ≡ writes contents failures old new
  after_quiet old now new quiet =
      let done : Held → Writes = λ b. record { before = b; after = record { contents = contents new; failures = failures new } } in
      ap done quiet

  -- it was left alone still
  pub quiet_still : (old now new : S) → IsQuiet (writes contents failures old now) → IsQuiet (writes contents failures now new) → IsQuiet (writes contents failures old new)
  quiet_still old now new first then = subst IsQuiet (after_quiet old now new first) then

  -- a file behind others has no code
  pub lacks : (compiling : Compiling) (held : List ℕ → Known) (before : List (List ℕ)) (file : List ℕ) (after files : List (List ℕ)) (programs : List Verified) (known : Known) (old now new : S) (status : ℕ)
      → files ≡ before ++ file ∷ after → AreCodes compiling held before programs → known ≡ held file → IsQuiet (writes contents failures old now)
      → ((out : Writes) → IsQuiet out → HasNoCode compiling.texts.loops file known out (writes contents failures now new) status)
      → (out : Writes) → IsQuiet out → LacksCode compiling held files out (writes contents failures old new) status ⊎ LacksMemory out (writes contents failures old new) status
  lacks compiling held before file after files programs known old now new status cut codes same quiet none = λ out silent. inl (record {
    before = before;
    file = file;
    after = after;
    cut = cut;
    programs = programs;
    codes = codes;
    none = subst (λ (k : Known). HasNoCode compiling.texts.loops file k out (writes contents failures old new) status) same
        (subst (λ (w : Writes). HasNoCode compiling.texts.loops file known out w status) (after_quiet old now new quiet) (none out silent));
  })

  -- the file of a turn has no code
  pub lacks_at : (compiling : Compiling) (held seen : List ℕ → Known) (names : List (Bor (List ℕ))) (k : ℕ) (d : Bor (List ℕ)) (programs : List Verified) (old now new : S) (status : ℕ) → k < length names
      → ((name : List ℕ) → seen name ≡ held name) → AreCodes compiling held (map (λ n. n.now) (take k names)) programs → IsQuiet (writes contents failures old now)
      → ((out : Writes) → IsQuiet out → HasNoCode compiling.texts.loops (get_or names k d).now (seen (get_or names k d).now) out (writes contents failures now new) status)
      → (out : Writes) → IsQuiet out → LacksCode compiling held (map (λ n. n.now) names) out (writes contents failures old new) status ⊎ LacksMemory out (writes contents failures old new) status
  lacks_at compiling held seen names k d programs old now new status low keeps codes quiet none =
      lacks compiling held _ (get_or names k d).now _ _ programs (seen (get_or names k d).now) old now new status (cut_at names k d low) codes (keeps (get_or names k d).now) quiet none

-- what is replayed of codes that were read before
pub replays_from : (honest : Type 0) (asked : Replayed) (names : List (List ℕ)) (programs : List Verified) (held now : List ℕ → Known) (out told err : Writes) (status : ℕ) → ((name : List ℕ) → now name ≡ held name) → told ≡ err
    → AreCodes asked.compiling held names programs → ((ns : List (List ℕ)) → AreCodes asked.compiling now ns programs → Replays honest asked ns now out told status) → Replays honest asked names held out err status
replays_from honest asked names programs held now out told err status keeps same codes replayed =
    let files : now ≡ held = λ i name. keeps name i in
    subst (λ (w : Writes). Replays honest asked names held out w status) same
    (subst (λ (f : List ℕ → Known). Replays honest asked names f out told status) files
    (replayed names (subst (λ (f : List ℕ → Known). AreCodes asked.compiling f names programs) (sym files) codes)))
