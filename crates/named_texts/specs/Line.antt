-- The lines about named texts, as lists of bytes.
use Rattle.named_texts.specs.declared.command.{
  Command.{Command, TheVariants.{Clone, New, PageOut, Pending, Pin, Release, RunVerb}},
  Verb.{TheVariants.{Count, IsPagedOut, Key, Loose, Unpin}, Verb},
}
use Rattle.std.specs.{
  Char.is_ascii_alphanumeric,
  List.list_all,
  Option.MatchOption,
  Prelude.{List, Option, codes, length, true, ℕ, [], ◌++◌, ◌∷◌, ◌≡◌, ◌≢◌, ◌≤◌, ◌⊎◌},
}

-- 1 to 16 ASCII letters and digits
abbrev pub IsName : List ℕ → Type 0
IsName word = (1 ≤ length word) × (length word ≤ 16) × (list_all is_ascii_alphanumeric word ≡ true)

-- the word of a verb in a line
abbrev pub word_of : Verb → List ℕ
word_of Unpin = codes "unpin"
word_of Loose = codes "loose"
word_of Count = codes "count"
word_of Key = codes "key"
word_of IsPagedOut = codes "out"

-- the line is the command's: its word, and its names and text, with one space before each; an empty text may lack it
abbrev pub Spells : List ℕ → Command → Type 0
Spells line (New name text) = IsName name.now × ((line ≡ codes "new " ++ (name.now ++ 32 ∷ text.now))
    ⊎ ((line ≡ codes "new " ++ name.now) × (text.now ≡ [])))
Spells line (Pin name new) = IsName name.now × IsName new.now × (line ≡ codes "pin " ++ (name.now ++ 32 ∷ new.now))
Spells line (Clone name new) = IsName name.now × IsName new.now × (line ≡ codes "clone " ++ (name.now ++ 32 ∷ new.now))
Spells line (Release name) = IsName name.now × (line ≡ codes "release " ++ name.now)
Spells line (RunVerb verb name) = IsName name.now × (line ≡ word_of verb ++ 32 ∷ name.now)
Spells line Pending = line ≡ codes "pending"
Spells line PageOut = line ≡ codes "pageout"

-- the result of a line: the command that it spells, and none if it spells none
abbrev pub SpellsResult : List ℕ → Option Command → Type 0
SpellsResult line answer = MatchOption answer ((command : Command) → ¬ (Spells line command))
    (λ command. Spells line command)

-- no byte is a space
abbrev pub LacksSpace : List ℕ → Type 0
LacksSpace [] = Unit {0}
LacksSpace (b ∷ bs) = (b ≢ 32) × LacksSpace bs
