-- Where programs stopped, as it is told.
use Rattle.std.proofs.Common.{◌≡◌, ◌++◌, ◌∙◌, ◌≤◌, Bor, ℕ, List, [], Option, Some, Result, Ok, Err, drop, get_or, inl, inr, length, map, ap, arith, refl, subst}
use Rattle.std.specs.Io.KnownBytes.{Appends}
use Rattle.std.specs.Prelude.{IfOk, MatchResult, Bool, true, false, ◌∷◌}
use Rattle.cells.specs.Stops.{stop_of}
use Rattle.cells.specs.declared.ending.Run.{Run}
use Rattle.cells.specs.declared.ending.Run.TheVariants.{Stopped, Wanted}
use Rattle.cells.specs.declared.ending.Stop.{Stop}
use Rattle.cells.specs.declared.ending.Want.TheVariants.{OutOfMemory}
use Rattle.c0_meaning.specs.Run.{ended_of}
use Rattle.c0_meaning.specs.declared.pending.Numbers.{Numbers}
use Rattle.executor.specs.declared.counts.MoverCounts.{MoverCounts}
use Rattle.program_run.specs.declared.run.Finished.{Finished}
use Rattle.streams.proofs.Written.{appends_more, none_failed_more}
use Rattle.streams.specs.Streams.{IsWritten, NoneFailed, Says, Writes, writes}
use Rattle.streams.specs.declared.stream.Failed.{Failed}
use Rattle.c0far.specs.FileCode.{names_image}
use Rattle.command_files.specs.FileTexts.{HasText, Known}
use Rattle.c0far.specs.Places.{ArePlaces, IsPlace, TellsBeside}
use Rattle.command_messages.specs.Shown.{StandsAt, TellsCall, TellsPlace, call_line, shown_stop}
use Rattle.command_messages.specs.Statuses.{ended_status, run_status}
use Rattle.command_messages.specs.Wants.{TellsMore}

-- a plain run that stopped so, of which the line was told
pub place_told : (file text : List ℕ) (o : Option Stop) (stop : Stop) (at line column : ℕ) (numbers : Option Numbers) (err : Writes) (status result : ℕ) → o ≡ Some stop → ended_status (ended_of o) ≡ 1
    → StandsAt text at line column → Says err (shown_stop file line column (stop_of stop) numbers) status result → TellsPlace file text (ended_of o) err status result
place_told file text o stop at line column numbers err status result is other stands told = inr (record {
  by = stop_of stop;
  is = ap ended_of is;
  other = other;
  at = at;
  line = line;
  column = column;
  stands = stands;
  numbers = numbers;
  told = told;
})

-- a run that stopped so, of which the line was written
pub written_at : (file : List ℕ) (held : Known) (run : Run) (stop : Stop) (text : List ℕ) (at line column : ℕ) (numbers : Option Numbers) (err : Writes) (r : Result (Unit {0}) Failed) → run ≡ Stopped stop → run_status run ≡ 1
    → names_image file ≡ false → HasText held text → StandsAt text at line column → IsWritten err (shown_stop file line column (stop_of stop) numbers) r
    → IfOk r (λ u. (bytes : List ℕ) × IsPlace file held run bytes × Appends err.before.contents err.after.contents bytes × NoneFailed err)
written_at file held run stop text at line column numbers err (Ok u) is other named read stands written = (
  shown_stop file line column (stop_of stop) numbers,
  inr (inl (record {
    stop = stop;
    is = is;
    other = other;
    of_text = named;
    text = text;
    read = read;
    at = at;
    line = line;
    column = column;
    stands = stands;
    by = numbers;
    line_is = refl;
  })),
  written.0,
  written.1,
)
written_at file held run stop text at line column numbers err (Err e) is other named read stands written = tt

-- a run that wanted memory, of which the line was written
pub called_at : (file : List ℕ) (held : Known) (run : Run) (text : List ℕ) (at line column : ℕ) (name : List ℕ) (err : Writes) (r : Result (Unit {0}) Failed) → run ≡ Wanted OutOfMemory → names_image file ≡ false → HasText held text
    → StandsAt text at line column → IsWritten err (call_line file line column name) r → IfOk r (λ u. (bytes : List ℕ) × IsPlace file held run bytes × Appends err.before.contents err.after.contents bytes × NoneFailed err)
called_at file held run text at line column name err (Ok u) is named read stands written = (
  call_line file line column name,
  inr (inr (record {
    is = is;
    of_text = named;
    text = text;
    read = read;
    at = at;
    line = line;
    column = column;
    stands = stands;
    name = name;
    line_is = refl;
  })),
  written.0,
  written.1,
)
called_at file held run text at line column name err (Err e) is named read stands written = tt

-- the function that a plain run called last, of which the line was told
pub call_told : (explains : Bool) (file text : List ℕ) (at line column : ℕ) (name : List ℕ) (err : Writes) (status result : ℕ) → explains ≡ true → StandsAt text at line column
    → Says err (call_line file line column name) status result → TellsCall explains file text err status result
call_told false file text at line column name err status result is stands told = cc is
call_told true file text at line column name err status result is stands told = inr (record { at = at; line = line; column = column; stands = stands; name = name; told = told })

-- bytes were written, and the command answers so
pub said : (w : Writes) (bytes : List ℕ) (status result : ℕ) (r : Result (Unit {0}) Failed) → IsWritten w bytes r → MatchResult r (λ _. result ≡ status) (λ _. result ≡ 2) → Says w bytes status result
said w bytes status result (Ok u) written is = inl (is, written.0, written.1)
said w bytes status result (Err e) written is = inr (is, written)

module _ {S : Type 0} (contents : S → Option (List ℕ)) (failures : S → ℕ) where
  -- what was written of the stops of several programs
  abbrev pub AllPlaces : (List ℕ → Known) → List (List ℕ) → List Finished → S → S → Type 0
  AllPlaces held files ends old new = (bytes : List ℕ) × ArePlaces held files ends bytes × Appends (contents old) (contents new) bytes × NoneFailed (writes contents failures old new)

  -- of one, and then of the others
  pub places_more : (file : List ℕ) (files : List (List ℕ)) (f : Finished) (fs : List Finished) (now later held : List ℕ → Known) (a b c : S) (r : Result (Unit {0}) Failed)
      → ((n : List ℕ) → now n ≡ held n) → ((n : List ℕ) → later n ≡ now n)
      → ((bytes : List ℕ) × IsPlace file (now file) f.end.run bytes × Appends (contents a) (contents b) bytes × NoneFailed (writes contents failures a b))
      → IfOk r (λ u. (other : List ℕ → Known) → ((n : List ℕ) → later n ≡ other n) → AllPlaces other files fs b c) → IfOk r (λ u. AllPlaces held (file ∷ files) (f ∷ fs) a c)
  places_more file files f fs now later held a b c (Ok u) is kept first more =
      let rest = more held (λ n. kept n ∙ is n) in (
        first.0 ++ rest.0,
        (first.0, rest.0, subst (λ (k : Known). IsPlace file k f.end.run first.0) (is file) first.1, rest.1, refl),
        appends_more (contents a) (contents b) (contents c) first.0 rest.0 first.2 rest.2,
        none_failed_more contents failures a b c first.3 rest.3,
      )
  places_more file files f fs now later held a b c (Err e) is kept first more = tt

  -- the same of the first of several, and then of those behind it
  pub places_behind : (names others : List (Bor (List ℕ))) (ends rest : List Finished) (file : List ℕ) (name : Bor (List ℕ)) (one : Finished) (now later : List ℕ → Known) (a b c : S) (r : Result (Unit {0}) Failed) → 1 ≤ length names
      → 1 ≤ length ends → ((n : List ℕ) → later n ≡ now n)
      → ((bytes : List ℕ) × IsPlace file (now file) one.end.run bytes × Appends (contents a) (contents b) bytes × NoneFailed (writes contents failures a b)) → file ≡ (get_or names 0 name).now → one ≡ get_or ends 0 one
      → IfOk r (λ u. (other : List ℕ → Known) → ((n : List ℕ) → later n ≡ other n) → AllPlaces other (map (λ n. n.now) others) rest b c) → others ≡ drop 1 names → rest ≡ drop 1 ends
      → IfOk r (λ u. (held : List ℕ → Known) → ((n : List ℕ) → now n ≡ held n) → AllPlaces held (map (λ n. n.now) names) ends a c)
  places_behind [] others ends rest file name one now later a b c r some any kept first named item more o e = absurd (let no : ⊥ = omega arith in no)
  places_behind (n ∷ ns) others [] rest file name one now later a b c r some any kept first named item more o e = absurd (let no : ⊥ = omega arith in no)
  places_behind (n ∷ ns) others (f ∷ fs) rest file name one now later a b c (Ok u) some any kept first named item more o e = λ held is.
      places_more n.now (map (λ m. m.now) ns) f fs now later held a b c (Ok u) is kept
      (subst (λ (x : List ℕ × Finished). (bytes : List ℕ) × IsPlace x.0 (now x.0) x.1.end.run bytes × Appends (contents a) (contents b) bytes × NoneFailed (writes contents failures a b)) (λ i. (named i, item i)) first)
      (subst (λ (x : List (Bor (List ℕ)) × List Finished). (other : List ℕ → Known) → ((m : List ℕ) → later m ≡ other m) → AllPlaces other (map (λ m. m.now) x.0) x.1 b c) (λ i. (o i, e i)) more)
  places_behind (n ∷ ns) others (f ∷ fs) rest file name one now later a b c (Err z) some any kept first named item more o e = tt

  -- and what is told behind that
  pub told_beside : (stats : Bool) (limit : ℕ) (held : List ℕ → Known) (files : List (List ℕ)) (share : ℕ) (ends : List Finished) (movers : List MoverCounts) (took : Option ℕ) (a b c : S) (status result : ℕ) → AllPlaces held files ends a b
      → TellsMore true stats limit share ends movers took (writes contents failures b c) status result → TellsBeside true stats limit held files share ends movers took (writes contents failures a c) status result
  told_beside stats limit held files share ends movers took a b c status result all more = inl (record {
    places = all.0;
    are = all.1;
    middle = record { contents = contents b; failures = failures b };
    written = all.2;
    sound = all.3;
    more = more;
  })
