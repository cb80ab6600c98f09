-- The lines about texts under names of roots, as lists of bytes, and what their commands do to the names of handles.
use Rattle.named_texts.specs.{
  Line.IsName,
  Named.{GivesName, SameNames},
  declared.{durable_command.DurableCommand.{DurableCommand, TheVariants.{Flush, Open, Save, Stat}}, names.Names.Names},
}
use Rattle.std.specs.{Option.MatchOption, Prelude.{List, Option, Result, codes, ℕ, ◌++◌, ◌∷◌, ◌≡◌}}

-- the line is the command's: its word, and its two names, with one space before each
abbrev pub SpellsDurable : List ℕ → DurableCommand → Type 0
SpellsDurable line (Save name root) = IsName name.now × IsName root.now
    × (line ≡ codes "save " ++ (name.now ++ 32 ∷ root.now))
SpellsDurable line (Open root new) = IsName root.now × IsName new.now
    × (line ≡ codes "open " ++ (root.now ++ 32 ∷ new.now))
SpellsDurable line Flush = line ≡ codes "flush"
SpellsDurable line Stat = line ≡ codes "stat"

-- the result of a line: the command that it spells, and none if it spells none
abbrev pub SpellsDurableResult : List ℕ → Option DurableCommand → Type 0
SpellsDurableResult line answer = MatchOption answer ((command : DurableCommand) → ¬ (SpellsDurable line command))
    (λ command. SpellsDurable line command)

-- what a command does to the names of handles, whatever it answers
abbrev pub ServesDurable : {A E : Type 0} → DurableCommand → Result A E → Names → Names → Type 0
ServesDurable (Save name root) answer old new = SameNames old new
ServesDurable (Open root given) answer old new = GivesName given.now answer old new
ServesDurable Flush answer old new = SameNames old new
ServesDurable Stat answer old new = SameNames old new
