-- Which words ask for help, and which page is shown of the words of a command line.
use Rattle.std.specs.Prelude.{ℕ, Bool, false, ◌||◌, List, [], ◌∷◌, Option, Some, None, is_some, codes, cond, map, unwrap_or}
use Rattle.std.specs.Str.{bytes_eq}
use Rattle.help_pages.specs.declared.faults.TheConstants.{FAULTS}
use Rattle.help_pages.specs.declared.pages.TheConstants.{PAGE, BUILD_PAGE, CHECK_PAGE, FAULTS_PAGE, IMAGES_PAGE, LIST_PAGE, MEAN_PAGE, REPLAY_PAGE, RUN_PAGE, STOPS_PAGE}

-- a text, by its bytes
abbrev pub Text : Type 0
Text = List ℕ

-- the word asks for help wherever it stands
abbrev pub is_help_flag : Text → Bool
is_help_flag word = bytes_eq word (codes "--help") || bytes_eq word (codes "-h")

-- the word asks for help where it is the first
abbrev pub asks_help : Text → Bool
asks_help word = bytes_eq word (codes "help") || is_help_flag word

-- one of the words asks for help wherever it stands
abbrev pub ask_flag : List Text → Bool
ask_flag [] = false
ask_flag (w ∷ ws) = is_help_flag w || ask_flag ws

-- the word names a command
abbrev pub is_command : Text → Bool
is_command word = bytes_eq word (codes "build") || (bytes_eq word (codes "check") || (bytes_eq word (codes "list") || (bytes_eq word (codes "mean") || (bytes_eq word (codes "replay") || bytes_eq word (codes "run")))))

-- the first of the words that names a command; none is the empty text
abbrev pub topic : List Text → Text
topic [] = []
topic (w ∷ ws) = cond (is_command w) w (topic ws)

-- the page of the command of this name, of faults, images or stops, or else that of all commands
abbrev pub page_named : Text → Text
page_named name =
    cond (bytes_eq name (codes "build")) BUILD_PAGE.now
    (cond (bytes_eq name (codes "check")) CHECK_PAGE.now
    (cond (bytes_eq name (codes "faults")) FAULTS_PAGE.now
    (cond (bytes_eq name (codes "images")) IMAGES_PAGE.now
    (cond (bytes_eq name (codes "list")) LIST_PAGE.now
    (cond (bytes_eq name (codes "mean")) MEAN_PAGE.now
    (cond (bytes_eq name (codes "replay")) REPLAY_PAGE.now
    (cond (bytes_eq name (codes "run")) RUN_PAGE.now
    (cond (bytes_eq name (codes "stops")) STOPS_PAGE.now PAGE.now))))))))

-- of these pages on faults the first of this number or name
abbrev pub first_fault : List (Text × Text × Text) → Text → Option Text
first_fault [] word = None
first_fault (t ∷ ts) word = cond (bytes_eq t.0 word || bytes_eq t.1 word) (Some t.2) (first_fault ts word)

-- the page on the fault of this number or name
abbrev pub fault_page : Text → Option Text
fault_page word = first_fault (map (λ t. (t.0.now, t.1.now, t.2.now)) FAULTS) word

-- the page on what this word names, or else that of all commands
abbrev pub page_on : Text → Text
page_on word = unwrap_or (fault_page word) (page_named word)

-- the page for the words behind one that asks for help
abbrev pub help_page : List Text → Text
help_page [] = PAGE.now
help_page (w ∷ ws) = page_on w

-- there is help on what the word names
abbrev pub is_topic : Text → Bool
is_topic word = is_command word || (bytes_eq word (codes "help") || (bytes_eq word (codes "faults") || (bytes_eq word (codes "images") || (bytes_eq word (codes "stops") || is_some (fault_page word)))))

-- the page for the words behind the program's name: that on what they ask for, that of the first command that they name, or else that of all
abbrev pub page_of : List Text → Text
page_of [] = PAGE.now
page_of (w ∷ ws) = cond (asks_help w) (help_page ws) (page_named (topic (w ∷ ws)))
