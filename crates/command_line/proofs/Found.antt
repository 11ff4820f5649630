-- What clap found, read as the words' meaning.
use Rattle.std.proofs.Common.{◌≡◌, ◌∙◌, Bool, true, false, List, [], ◌∷◌, Option, Some, None, map, find, cond, refl, sym, ap, ap₂, subst, inl, inr, ◌||◌, ℕ}
use Rattle.std.specs.Prelude.{Box, IfErr, IfOk, MatchResult, Result, Ok, Err, codes, option_map, option_and_then, slice_get}
use Rattle.std.specs.Option.{option_map_or}
use Rattle.std.specs.Box.{box_value}
use Rattle.std.specs.Str.{bytes_eq}
use Rattle.std.specs.Borrow.{Bor}
use Rattle.clap.specs.Walk.{Row, Text, all_of, first_of, row_of, rows_of}
use Rattle.clap.specs.Words.{HasKind, Kinds, fault_of, is_simple_and_free, kind_of}
use Rattle.clap.specs.Facts.{Entry}
use Rattle.clap.specs.Matches.{first_value, found_of, matched_of, raw_values, subcommand_name_of}
use Rattle.clap.specs.Simple.{App, HasMatchesOf, is_simple, subcommand_of, subcommand_rows, subcommand_rows_of}
use Rattle.clap.specs.declared.error.kind.ErrorKind.TheVariants.{OutOfMemory}
use Rattle.clap.specs.declared.error.Error.{Error}
use Rattle.clap.specs.declared.parser.matches.ArgMatches.{ArgMatches}
use Rattle.clap.specs.declared.parser.matches.ArgMatches.TheViews.{out-ArgMatches, out-SubCommand}
use Rattle.clap.specs.declared.parser.matches.SubCommand.{SubCommand}
use Rattle.command_line.specs.declared.words.Line.{Line}
use Rattle.command_line.specs.declared.words.Usage.{Usage}
use Rattle.command_line.specs.declared.words.Usage.TheVariants as usage
use Rattle.command_line.specs.Shell.{Bounded, Build, Command, Compiling, Lists, Names, bound_in, command_of, limit_in, turns_in, Memory, Replay, Replayed, Run, build_command, command_in, compiling_in, has_checks, has_flag, Started, Texts, level_in, list_command, live_command, live_of, memory_in, named_command, number_in, number_or, piece_in, replay_command, replayed_in, run_command, shell, short_option, started_in, texts_in, whole_command, Work, work_in}
use Rattle.clap.specs.declared.parser.matches.Found.{Found}
use Rattle.clap.specs.declared.parser.matches.MatchedArg.{MatchedArg}

-- the first of some texts behind references
first_text : (xs : List (Bor Text)) → slice_get (map (λ s. s.now) xs) 0 ≡ option_map (λ s. s.now) (slice_get xs 0)
first_text [] = refl
first_text (x ∷ xs) = refl

-- the first value of an id among entries
abbrev value_in : List Entry → Text → Option Text
value_in es id = option_and_then (λ (a : MatchedArg). option_map (λ s. s.now) (slice_get a.vals.items 0)) (option_map (λ (e : Entry). e.1) (find (λ (e : Entry). bytes_eq e.0.now id) es))

value_is : (id : Text) (es : List Entry) → first_of id (map row_of es) ≡ value_in es id
value_is id [] = refl
value_is id (e ∷ es) = go (bytes_eq e.0.now id) refl (value_is id es)
  where
    go : (b : Bool) → bytes_eq e.0.now id ≡ b → first_of id (map row_of es) ≡ value_in es id → first_of id (map row_of (e ∷ es)) ≡ value_in (e ∷ es) id
    go true same rest = rw same (first_text e.1.vals.items)
    go false other rest = rw other rest

-- the rows tell the first value
pub first_is : (f : Found) (id : Text) → first_of id (rows_of f) ≡ first_value f id
first_is f id = value_is id f.entries.items

-- what was found of a flag tells whether it is given
pub flag_is : (f : Found) (name : Text) (o : Option Text) → o ≡ first_value f name → option_map_or (λ text. bytes_eq text (codes "true")) o false ≡ has_flag name (rows_of f)
flag_is f name o e = ap (λ (o : Option Text). option_map_or (λ text. bytes_eq text (codes "true")) o false) (e ∙ sym (first_is f name))

-- how texts are taken
abbrev pub taken : (loops checks : Bool) → Texts
taken loops checks = record { loops = loops; checks = checks }

-- what was found of the level and of the flag tells how texts are taken
pub texts_are : (f : Found) (loops checks : Bool) → Some loops ≡ level_in (rows_of f) → checks ≡ has_checks (rows_of f) → Some (taken loops checks) ≡ texts_in (rows_of f)
texts_are f loops checks of_level of_checks = ap (λ c. Some (taken loops c)) of_checks ∙ ap (option_map (λ l. taken l (has_checks (rows_of f)))) of_level

-- how code is made of texts
abbrev pub making : Texts → (piece : ℕ) → Compiling
making texts piece = record { texts = texts; piece = piece }

-- what was found of the size of pieces, or that it is none, tells how code is made
pub compiling_is : (f : Found) (t : Texts) (o : Option ℕ) → Some t ≡ texts_in (rows_of f) → o ≡ piece_in (rows_of f) → option_map (making t) o ≡ compiling_in (rows_of f)
compiling_is f t o of_texts of_piece = ap (option_map (making t)) of_piece ∙ ap (option_and_then (λ x. option_map (making x) (piece_in (rows_of f)))) of_texts

-- ... and the listing
pub list_is : (f : Found) (loops : Bool) (o : Option ℕ) (file : Text) → Some loops ≡ level_in (rows_of f) → o ≡ piece_in (rows_of f) → option_map (λ p. Lists loops p file) o ≡ list_command (rows_of f) file
list_is f loops o file of_level of_piece =
    ap (option_map (λ p. Lists loops p file)) of_piece ∙ ap (option_and_then (λ l. option_map (λ p. Lists l p file) (piece_in (rows_of f)))) of_level

-- how a text is run plainly
abbrev pub bounded : Texts → (turns : ℕ) → (explains : Bool) → (limit : ℕ) → Bounded
bounded texts turns explains limit = record { texts = texts; turns = turns; explains = explains; limit = limit }

-- what was found of its options tells how a text is run plainly
pub bound_is : (f : Found) (t : Texts) (n m : ℕ) (b : Bool) → Some t ≡ texts_in (rows_of f) → Some n ≡ turns_in (rows_of f) → Some m ≡ limit_in (rows_of f) → b ≡ has_flag (codes "where") (rows_of f)
    → Some (bounded t n b m) ≡ bound_in (rows_of f)
bound_is f t n m b of_texts of_turns of_limit of_explains =
    let rows : List Row = rows_of f in
    let why : Bool = has_flag (codes "where") rows in
    ap (λ (x : Bool). Some (bounded t n x m)) of_explains
    ∙ ap (option_map (λ l. bounded t n why l)) of_limit
    ∙ ap (option_and_then (λ k. option_map (λ l. bounded t k why l) (limit_in rows))) of_turns
    ∙ ap (option_and_then (λ x. option_and_then (λ k. option_map (λ l. bounded x k why l) (limit_in rows)) (turns_in rows))) of_texts

-- what was found of the file to write tells the writing of an image
pub build_is : (f : Found) (x : Compiling) (o : Option Text) (file : Text) → Some x ≡ compiling_in (rows_of f) → o ≡ first_value f (codes "out") → option_map (λ out. Build x out file) o ≡ build_command (rows_of f) file
build_is f x o file of_compiling e =
    let out : Option Text = first_of (codes "out") (rows_of f) in
    ap (option_map (λ out. Build x out file)) (e ∙ sym (first_is f (codes "out")))
    ∙ ap (option_and_then (λ y. option_map (λ out. Build y out file) out)) of_compiling

-- what was found of an option tells its number, or the default
pub option_is : (f : Found) (id : Text) (read : Text → Option ℕ) (default : ℕ) (o : Option Text) → o ≡ first_value f id → number_or read default o ≡ number_or read default (first_of id (rows_of f))
option_is f id read default o told = ap (number_or read default) (told ∙ sym (first_is f id))

-- what was found of the file tells the command
pub file_is : (f : Found) (name : Text) (o : Option Text) → o ≡ first_value f (codes "file")
    → option_and_then (named_command name (rows_of f)) o ≡ option_and_then (named_command name (rows_of f)) (first_of (codes "file") (rows_of f))
file_is f name o told = ap (option_and_then (named_command name (rows_of f))) (told ∙ sym (first_is f (codes "file")))

-- a memory
abbrev over : (frames objects from : ℕ) → Option Text → Memory
over frames objects from store = record { frames = frames; objects = objects; store = store; fail_from = from }

-- what was found of its options tells the memory
pub memory_is : (f : Found) (frames objects from : ℕ) (o : Option Text) → Some frames ≡ short_option (codes "frames") 64 (rows_of f) → Some objects ≡ short_option (codes "objects") 65536 (rows_of f)
    → Some from ≡ number_or number_in 0 (first_of (codes "fail-from") (rows_of f)) → o ≡ first_value f (codes "store") → Some (over frames objects from o) ≡ memory_in (rows_of f)
memory_is f frames objects from o of_frames of_objects of_from told =
    let rows : List Row = rows_of f in
    let store : Option Text = first_of (codes "store") rows in
    let calls : Option ℕ = number_or number_in 0 (first_of (codes "fail-from") rows) in
    let many : Option ℕ = short_option (codes "objects") 65536 rows in
    ap (λ (s : Option Text). Some (over frames objects from s)) (told ∙ sym (first_is f (codes "store")))
    ∙ ap (option_map (λ k. over frames objects k store)) of_from
    ∙ ap (option_and_then (λ n. option_map (λ k. over frames n k store) calls)) of_objects
    ∙ ap (option_and_then (λ m. option_and_then (λ n. option_map (λ k. over m n k store) calls) many)) of_frames

-- a run
abbrev pub started : Compiling → Memory → (evacuators fetchers : ℕ) → Work → (stats explains : Bool) → (limit : ℕ) → Started
started compiling memory evacuators fetchers work stats explains limit = record { compiling = compiling; memory = memory; evacuators = evacuators; fetchers = fetchers; work = work; stats = stats; explains = explains; limit = limit }

-- what was found of its options tells the work
pub work_is : (f : Found) (workers quantum : ℕ) → Some workers ≡ short_option (codes "workers") 4 (rows_of f) → Some quantum ≡ short_option (codes "quantum") 1000 (rows_of f)
    → Some (record { workers = workers; quantum = quantum }) ≡ work_in (rows_of f)
work_is f workers quantum of_workers of_quantum =
    ap (option_map (λ n. record { workers = workers; quantum = n })) of_quantum
    ∙ ap (option_and_then (λ w. option_map (λ n. record { workers = w; quantum = n }) (short_option (codes "quantum") 1000 (rows_of f)))) of_workers

-- what was found of its options tells the run
pub started_is : (f : Found) (t : Compiling) (memory : Memory) (evacuators fetchers : ℕ) (work : Work) (stats explains : Bool) (limit : ℕ) → Some t ≡ compiling_in (rows_of f) → Some memory ≡ memory_in (rows_of f) → Some evacuators ≡ short_option (codes "evacuators") 1 (rows_of f)
    → Some fetchers ≡ short_option (codes "fetchers") 1 (rows_of f) → Some work ≡ work_in (rows_of f) → stats ≡ has_flag (codes "stats") (rows_of f) → explains ≡ has_flag (codes "where") (rows_of f) → Some limit ≡ limit_in (rows_of f)
    → Some (started t memory evacuators fetchers work stats explains limit) ≡ started_in (rows_of f)
started_is f t memory evacuators fetchers work stats explains limit of_compiling of_memory of_evacuators of_fetchers of_work of_stats of_explains of_limit =
    let rows : List Row = rows_of f in
    let most : Option ℕ = limit_in rows in
    let ahead : Option ℕ = short_option (codes "fetchers") 1 rows in
    let out : Option ℕ = short_option (codes "evacuators") 1 rows in
    let turns : Option Work = work_in rows in
    let over : Option Memory = memory_in rows in
    let told : Bool = has_flag (codes "stats") rows in
    let why : Bool = has_flag (codes "where") rows in
    ap (λ (b : Bool). Some (started t memory evacuators fetchers work b explains limit)) of_stats
    ∙ ap (λ (b : Bool). Some (started t memory evacuators fetchers work told b limit)) of_explains
    ∙ ap (option_map (λ l. started t memory evacuators fetchers work told why l)) of_limit
    ∙ ap (option_and_then (λ w. option_map (λ l. started t memory evacuators fetchers w told why l) most)) of_work
    ∙ ap (option_and_then (λ q. option_and_then (λ w. option_map (λ l. started t memory evacuators q w told why l) most) turns)) of_fetchers
    ∙ ap (option_and_then (λ e. option_and_then (λ q. option_and_then (λ w. option_map (λ l. started t memory e q w told why l) most) turns) ahead)) of_evacuators
    ∙ ap (option_and_then (λ m. option_and_then (λ e. option_and_then (λ q. option_and_then (λ w. option_map (λ l. started t m e q w told why l) most) turns) ahead) out)) of_memory
    ∙ ap (option_and_then (λ x. option_and_then (λ m. option_and_then (λ e. option_and_then (λ q. option_and_then (λ w. option_map (λ l. started x m e q w told why l) most) turns) ahead) out) over)) of_compiling

-- a replay
abbrev pub by : Compiling → Memory → (evacuators fetchers : ℕ) → Work → (schedule : Text) → Replayed
by compiling memory evacuators fetchers work schedule = record { compiling = compiling; memory = memory; evacuators = evacuators; fetchers = fetchers; work = work; schedule = schedule }

-- what was found of its options tells the replay
pub replayed_is : (f : Found) (t : Compiling) (memory : Memory) (evacuators fetchers : ℕ) (work : Work) (o : Option Text) → Some t ≡ compiling_in (rows_of f) → Some memory ≡ memory_in (rows_of f)
    → Some evacuators ≡ short_option (codes "evacuators") 1 (rows_of f) → Some fetchers ≡ short_option (codes "fetchers") 1 (rows_of f) → Some work ≡ work_in (rows_of f) → o ≡ first_value f (codes "schedule")
    → option_map (λ s. by t memory evacuators fetchers work s) o ≡ replayed_in (rows_of f)
replayed_is f t memory evacuators fetchers work o of_compiling of_memory of_evacuators of_fetchers of_work told =
    let rows : List Row = rows_of f in
    let lines : Option Text = first_of (codes "schedule") rows in
    let ahead : Option ℕ = short_option (codes "fetchers") 1 rows in
    let out : Option ℕ = short_option (codes "evacuators") 1 rows in
    let turns : Option Work = work_in rows in
    let over : Option Memory = memory_in rows in
    ap (option_map (λ s. by t memory evacuators fetchers work s)) (told ∙ sym (first_is f (codes "schedule")))
    ∙ ap (option_and_then (λ w. option_map (λ s. by t memory evacuators fetchers w s) lines)) of_work
    ∙ ap (option_and_then (λ q. option_and_then (λ w. option_map (λ s. by t memory evacuators q w s) lines) turns)) of_fetchers
    ∙ ap (option_and_then (λ e. option_and_then (λ q. option_and_then (λ w. option_map (λ s. by t memory e q w s) lines) turns) ahead)) of_evacuators
    ∙ ap (option_and_then (λ m. option_and_then (λ e. option_and_then (λ q. option_and_then (λ w. option_map (λ s. by t m e q w s) lines) turns) ahead) out)) of_memory
    ∙ ap (option_and_then (λ x. option_and_then (λ m. option_and_then (λ e. option_and_then (λ q. option_and_then (λ w. option_map (λ s. by x m e q w s) lines) turns) ahead) out) over)) of_compiling

-- all values of an id among entries
abbrev values_in : List Entry → Text → Option (List Text)
values_in es id = option_map raw_values (option_map (λ (e : Entry). e.1) (find (λ (e : Entry). bytes_eq e.0.now id) es))

values_are : (id : Text) (es : List Entry) → all_of id (map row_of es) ≡ values_in es id
values_are id [] = refl
values_are id (e ∷ es) = go (bytes_eq e.0.now id) refl (values_are id es)
  where
    go : (b : Bool) → bytes_eq e.0.now id ≡ b → all_of id (map row_of es) ≡ values_in es id → all_of id (map row_of (e ∷ es)) ≡ values_in (e ∷ es) id
    go true same rest = rw same refl
    go false other rest = rw other rest

-- the rows tell all values
pub all_are : (f : Found) (id : Text) → all_of id (rows_of f) ≡ option_map raw_values (matched_of f id)
all_are f id = values_are id f.entries.items

-- what was found of the files tells the replay of them
pub replay_is : (f : Found) (asked : Replayed) (o : Option (List Text)) → Some asked ≡ replayed_in (rows_of f) → o ≡ all_of (codes "file") (rows_of f)
    → option_map (λ files. Replay asked files) o ≡ replay_command (rows_of f)
replay_is f asked o of_asked told =
    let files : Option (List Text) = all_of (codes "file") (rows_of f) in
    ap (option_map (λ fs. Replay asked fs)) told
    ∙ ap (option_and_then (λ a. option_map (λ fs. Replay a fs) files)) of_asked

-- what was found of the files tells the run of them
pub run_of_files : (f : Found) (asked : Started) (o : Option (List Text)) → Some asked ≡ started_in (rows_of f) → o ≡ all_of (codes "file") (rows_of f)
    → option_map (λ files. Run asked files) o ≡ whole_command (rows_of f)
run_of_files f asked o of_asked told =
    let files : Option (List Text) = all_of (codes "file") (rows_of f) in
    ap (option_map (λ fs. Run asked fs)) told
    ∙ ap (option_and_then (λ a. option_map (λ fs. Run a fs) files)) of_asked

-- what was found of the files tells the run of the one among them
pub live_is : (f : Found) (asked : Started) (o : Option (List Text)) → Some asked ≡ started_in (rows_of f) → o ≡ option_map raw_values (matched_of f (codes "file")) → option_and_then (live_of asked) o ≡ live_command (rows_of f)
live_is f asked o of_asked told =
    let files : Option (List Text) = all_of (codes "file") (rows_of f) in
    ap (option_and_then (live_of asked)) (told ∙ sym (all_are f (codes "file")))
    ∙ ap (option_and_then (λ a. option_and_then (live_of a) files)) of_asked

-- a run is of the one sort or the other
pub run_sort : (rows : List Row) (b : Bool) → b ≡ has_flag (codes "live") rows → cond b (live_command rows) (whole_command rows) ≡ run_command rows
run_sort rows b e = ap (λ (x : Bool). cond x (live_command rows) (whole_command rows)) e

-- a pair by its parts
pair_is : (o : Option (Text × List Row)) (n : Text) (rows : List Row) → Some n ≡ option_map (λ (p : Text × List Row). p.0) o → Some rows ≡ option_map (λ (p : Text × List Row). p.1) o → o ≡ Some (n, rows)
pair_is None n rows e f = cc
pair_is (Some p) n rows e f = let first : n ≡ p.0 = cc in let second : rows ≡ p.1 = cc in rw (first, second) refl

-- the name that was found, among the rows
name_in : {Z : Type 0} (o : Option (Box SubCommand Z)) → option_map (λ (b : Box SubCommand Z). (out-SubCommand (box_value b)).name.now) o ≡ option_map (λ (p : Text × List Row). p.0) (subcommand_rows o)
name_in None = refl
name_in (Some b) = refl

name_is : (m : ArgMatches) → subcommand_name_of m ≡ option_map (λ (p : Text × List Row). p.0) (subcommand_rows_of m)
name_is m = name_in (out-ArgMatches m).subcommand

-- no command was found
pub none_found : (m : ArgMatches) → None ≡ subcommand_name_of m → command_in (subcommand_rows_of m) ≡ None
none_found m e = go (subcommand_rows_of m) (e ∙ name_is m)
  where
    go : (o : Option (Text × List Row)) → None ≡ option_map (λ (p : Text × List Row). p.0) o → command_in o ≡ None
    go None f = refl
    go (Some p) f = absurd (let no : ⊥ = cc in no)

-- a command was found, with or without its file
pub command_found : (m inner : ArgMatches) (name : Text) → Some name ≡ subcommand_name_of m → Some (rows_of (found_of inner)) ≡ option_map (λ (p : Text × List Row). p.1) (subcommand_rows_of m)
    → command_in (subcommand_rows_of m) ≡ command_in (Some (name, rows_of (found_of inner)))
command_found m inner name e f = ap command_in (pair_is (subcommand_rows_of m) name (rows_of (found_of inner)) (e ∙ name_is m) f)

-- one more argument that is not global
pub still_local : (new old arg : Bool) → new ≡ (old || arg) → old ≡ false → arg ≡ false → new ≡ false
still_local new old arg n o a = n ∙ ap₂ ◌||◌ o a

-- the shell is simple
pub shell_simple : is_simple shell ≡ true
unfolding shell
shell_simple = refl

-- no rule of the shell is on another
shell_free : is_simple_and_free shell ≡ true
unfolding shell
shell_free = refl

-- clap found no fault where it took the words
pub no_fault : (a : App) (words : List Text) → a ≡ shell → (is_simple_and_free a ≡ true → fault_of a words ≡ []) → fault_of shell words ≡ []
no_fault a words same none = subst (λ b. fault_of b words ≡ []) same (none (ap is_simple_and_free same ∙ shell_free))

-- where it finds no fault, it refuses words only for want of memory
pub only_memory : (a : App) (words : List Text) (e : Error) → a ≡ shell → (is_simple_and_free a ≡ true → HasKind (fault_of a words) e) → fault_of shell words ≡ [] → kind_of e ≡ OutOfMemory
only_memory a words e same has none = go _ none (subst (λ b. HasKind (fault_of b words) e) same (has (ap is_simple_and_free same ∙ shell_free)))
  where
    go : (kinds : Kinds) → kinds ≡ [] → HasKind kinds e → kind_of e ≡ OutOfMemory
    go [] f (inl k) = k
    go [] f (inr among) = absurd among
    go (k ∷ ks) f h = cc

-- what clap found is what the words mean
pub rows_are : (a : App) (words : List Text) (m : ArgMatches) → a ≡ shell → HasMatchesOf a words m → subcommand_rows_of m ≡ subcommand_of shell words
rows_are a words m same has = (has (ap is_simple same ∙ shell_simple)).1 ∙ ap (λ b. subcommand_of b words) same

-- nothing is not something
pub none_some : {x : Command} → None ≡ Some x → ⊥
none_some e = cc e

-- what clap found is a command, which the words are then
pub names_of : (words : List Text) (m : ArgMatches) (r : Result Line Usage) → fault_of shell words ≡ [] → subcommand_rows_of m ≡ subcommand_of shell words
    → MatchResult r (λ l. Some (command_of l) ≡ command_in (subcommand_rows_of m)) (λ u. u ≡ usage.Refused → None ≡ command_in (subcommand_rows_of m)) → IfOk r (λ l. Names words (command_of l))
names_of words m (Ok l) sound rows told = (sound, ap command_in (sym rows) ∙ sym told)
names_of words m (Err u) sound rows told = tt

-- where there is none, the words are refused only for want of memory, if they are a command
pub names_none : (words : List Text) (m : ArgMatches) (r : Result Line Usage) → subcommand_rows_of m ≡ subcommand_of shell words
    → MatchResult r (λ l. Some (command_of l) ≡ command_in (subcommand_rows_of m)) (λ u. u ≡ usage.Refused → None ≡ command_in (subcommand_rows_of m))
    → IfErr r (λ u. (command : Command) → Names words command → u ≡ usage.OutOfMemory)
names_none words m (Ok l) rows told = tt
names_none words m (Err usage.OutOfMemory) rows told = λ command named. refl
names_none words m (Err usage.Refused) rows told = λ command named. absurd (none_some (told refl ∙ (ap command_in rows ∙ named.1)))
