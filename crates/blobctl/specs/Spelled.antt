-- Which command words spell, by what `clap` finds in them.
use Rattle.blobctl.specs.declared.command.CacheChange.{CacheChange}
use Rattle.blobctl.specs.declared.command.CacheChange.TheVariants as cache_changes
use Rattle.blobctl.specs.declared.command.Change.{Change}
use Rattle.blobctl.specs.declared.command.Change.TheVariants as changes
use Rattle.blobctl.specs.declared.command.Command.{Command}
use Rattle.blobctl.specs.declared.command.Command.TheVariants as commands
use Rattle.blobctl.specs.declared.command.Comparison.{Comparison}
use Rattle.blobctl.specs.declared.command.Format.{Format}
use Rattle.blobctl.specs.declared.command.Format.TheVariants as formats
use Rattle.blobctl.specs.declared.command.Listing.{Listing}
use Rattle.blobctl.specs.declared.command.Listing.TheVariants as listings
use Rattle.blobctl.specs.declared.command.Look.{Look}
use Rattle.blobctl.specs.declared.command.Look.TheVariants as looks
use Rattle.blobctl.specs.declared.command.Source.{Source}
use Rattle.blobctl.specs.declared.command.Source.TheVariants as sources
use Rattle.clap.specs.Words.{first_value, matched_of, one_text, raw_values}
use Rattle.clap.specs.declared.parser.matches.Found.{Found}
use Rattle.std.specs.Borrow.{Bor}
use Rattle.std.specs.Prelude.{
  Bool,
  List,
  None,
  Option,
  Some,
  codes,
  false,
  is_some,
  map,
  option_map,
  true,
  unwrap_or,
  ℕ,
  [],
  ◌&&◌,
  ◌<◌,
  ◌^◌,
  ◌||◌,
  ◌≡◌,
  ◌≢◌,
  ◌⊎◌,
}
use Rattle.std.specs.Str.{bytes_eq, Parse.{IsNumeral, digits_value, without_leading_plus}}

-- whether a flag was given
pub record IsFlag (found : Found) (id : List ℕ) (is_given : Bool) : Type 0 where
  pub given : one_text found id ≡ Some (codes "true") → is_given ≡ true
  pub left_out : one_text found id ≡ None → is_given ≡ false
  pub unset : one_text found id ≡ Some (codes "false") → is_given ≡ false

-- the number of an argument below 2 ^ bits, or what stands for none
pub record IsNumber (bits : ℕ) (found : Found) (id : List ℕ) (default number : ℕ) : Type 0 where
  pub left_out : one_text found id ≡ None → number ≡ default
  pub given : (text : List ℕ) → one_text found id ≡ Some text → IsNumeral 10 (without_leading_plus text)
      → digits_value 10 (without_leading_plus text) < 2 ^ bits → number ≡ digits_value 10 (without_leading_plus text)

abbrev pub IsFormat : Found → Format → Type 0
IsFormat found formats.Lines = IsFlag found (codes "json") false
IsFormat found formats.Json = IsFlag found (codes "json") true

abbrev pub IsListing : Found → Listing → Type 0
IsListing found listings.Roots = (first_value found (codes "ROOT") ≡ None) × IsFlag found (codes "all") false
IsListing found listings.Blobs = (first_value found (codes "ROOT") ≡ None) × IsFlag found (codes "all") true
IsListing found (listings.Children root) = first_value found (codes "ROOT") ≡ Some root.now

pub record IsComparison (found : Found) (words : Comparison) : Type 0 where
  pub first : first_value found (codes "FIRST") ≡ Some words.first.now
  pub second : first_value found (codes "SECOND") ≡ Some words.second.now
  pub is_exact : IsFlag found (codes "exact") words.is_exact

-- standard input, unless a path is given that isn't `-`
abbrev pub IsSource : Found → Source → Type 0
IsSource found sources.Input = (first_value found (codes "PATH") ≡ None) ⊎ (first_value found (codes "PATH") ≡ Some (codes "-"))
IsSource found (sources.Path path) = (first_value found (codes "PATH") ≡ Some path.now) × (path.now ≢ codes "-")
IsSource found (sources.Hex word) = ⊥

-- a command that looks, but for `copy` and those of the cache
abbrev pub IsLook : List ℕ → Found → Look → Type 0
IsLook name found (looks.List listing format) = (name ≡ codes "ls") × IsListing found listing × IsFormat found format
IsLook name found (looks.Log root format) = (name ≡ codes "log") × (first_value found (codes "ROOT") ≡ Some root.now) × IsFormat found format
IsLook name found (looks.Diff words format) = (name ≡ codes "diff") × IsComparison found words × IsFormat found format
IsLook name found (looks.Cat key) = (name ≡ codes "cat") × (first_value found (codes "KEY") ≡ Some key.now)
IsLook name found (looks.Tree root) = (name ≡ codes "tree") × (first_value found (codes "ROOT") ≡ Some root.now)
IsLook name found (looks.Dot root) = (name ≡ codes "dot") × (first_value found (codes "ROOT") ≡ Some root.now)
IsLook name found (looks.Stat format) = (name ≡ codes "stat") × IsFormat found format
IsLook name found (looks.Fsck root) = (name ≡ codes "fsck") × (first_value found (codes "NAME") ≡ option_map (λ it. it.now) root)
IsLook name found (looks.Copy other roots) = ⊥
IsLook name found (looks.CacheGet digest path) = ⊥
IsLook name found (looks.CacheStat format) = ⊥
IsLook name found (looks.ExportDb path) = (name ≡ codes "export-db") × (first_value found (codes "DB") ≡ Some path.now)

-- the values of an argument, in their order
abbrev pub IsWordList : Found → List ℕ → List (Bor (List ℕ)) → Type 0
IsWordList found id words = unwrap_or (option_map raw_values (matched_of found id)) [] ≡ map (λ it. it.now) words

-- a command, but for those of the cache
abbrev pub IsCommand : List ℕ → Found → Command → Type 0
IsCommand name found (commands.Look (looks.Copy other roots)) = (name ≡ codes "copy") × (first_value found (codes "OTHER") ≡ Some other.now)
    × IsWordList found (codes "ROOT") roots.items
IsCommand name found (commands.Look look) = IsLook name found look
IsCommand name found (commands.Change (changes.Put source children)) = (name ≡ codes "put") × IsSource found source
    × IsWordList found (codes "child") children.items
IsCommand name found (commands.Change (changes.SetRoot root key)) = (name ≡ codes "root") × (first_value found (codes "NAME") ≡ Some root.now)
    × (first_value found (codes "KEY") ≡ Some key.now)
IsCommand name found (commands.Change (changes.DropRoot root)) = (name ≡ codes "drop") × (first_value found (codes "NAME") ≡ Some root.now)
IsCommand name found (commands.ChangeCache change seconds) = ⊥
IsCommand name found (commands.Collect keep) = (name ≡ codes "gc") × IsNumber 64 found (codes "keep") 1 keep
IsCommand name found (commands.ImportOld old) = (name ≡ codes "import-old") × (first_value found (codes "OLD") ≡ Some old.now)
IsCommand name found commands.Serve = name ≡ codes "serve"
IsCommand name found commands.Texts = ⊥

-- a command of the cache
abbrev pub IsCacheCommand : List ℕ → Found → Command → Type 0
IsCacheCommand name found (commands.Look (looks.CacheGet digest path)) = (name ≡ codes "get") × (first_value found (codes "DIGEST") ≡ Some digest.now)
    × (first_value found (codes "output") ≡ option_map (λ it. it.now) path)
IsCacheCommand name found (commands.Look (looks.CacheStat format)) = (name ≡ codes "stat") × IsFormat found format
IsCacheCommand name found (commands.Look look) = ⊥
IsCacheCommand name found (commands.ChangeCache (cache_changes.Put digest source status) seconds) = (name ≡ codes "put")
    × (first_value found (codes "DIGEST") ≡ Some digest.now) × IsSource found source × IsNumber 32 found (codes "status") 0 status
    × IsNumber 64 found (codes "wait") 0 seconds
IsCacheCommand name found (commands.ChangeCache (cache_changes.Trim size) seconds) = (name ≡ codes "trim")
    × (first_value found (codes "SIZE") ≡ Some size.now) × IsNumber 64 found (codes "wait") 0 seconds
IsCacheCommand name found other = ⊥

-- an argument has a value
abbrev pub has : Found → List ℕ → Bool
has found id = is_some (first_value found id)

-- the name is that of a command that looks, which has the words that it needs
abbrev pub is_look : List ℕ → Found → Bool
is_look name found = bytes_eq name (codes "ls") || (bytes_eq name (codes "stat") || (bytes_eq name (codes "fsck")
    || ((bytes_eq name (codes "log") && has found (codes "ROOT")) || ((bytes_eq name (codes "tree") && has found (codes "ROOT"))
    || ((bytes_eq name (codes "dot") && has found (codes "ROOT")) || ((bytes_eq name (codes "cat") && has found (codes "KEY"))
    || ((bytes_eq name (codes "export-db") && has found (codes "DB"))
    || (bytes_eq name (codes "diff") && (has found (codes "FIRST") && has found (codes "SECOND"))))))))))

-- the same of any command but `copy`, `put` and those of the cache
abbrev pub is_plain : List ℕ → Found → Bool
is_plain name found = bytes_eq name (codes "gc") || (bytes_eq name (codes "serve") || ((bytes_eq name (codes "drop") && has found (codes "NAME"))
    || ((bytes_eq name (codes "root") && (has found (codes "NAME") && has found (codes "KEY")))
    || ((bytes_eq name (codes "import-old") && has found (codes "OLD")) || is_look name found))))

-- the same of any command but those of the cache
abbrev pub is_command : List ℕ → Found → Bool
is_command name found = bytes_eq name (codes "put") || ((bytes_eq name (codes "copy") && has found (codes "OTHER")) || is_plain name found)

-- the same of the commands of the cache
abbrev pub is_cache_command : List ℕ → Found → Bool
is_cache_command name found = bytes_eq name (codes "stat") || ((bytes_eq name (codes "get") && has found (codes "DIGEST"))
    || ((bytes_eq name (codes "put") && has found (codes "DIGEST")) || (bytes_eq name (codes "trim") && has found (codes "SIZE"))))
