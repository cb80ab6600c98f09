-- Lines about texts under names of roots, taken apart at their spaces.
use Rattle.named_texts.proofs.SplitLines.{cut, letters_lack, name_lacks, uncut}
use Rattle.named_texts.specs.{
  Durable.SpellsDurable,
  Line.{IsName, LacksSpace},
  declared.durable_command.DurableCommand.{DurableCommand, TheVariants.{Flush, Open, Save, Stat}},
}
use Rattle.std.proofs.Common.{List, codes, inl, inr, refl, subst, sym, ℕ, ◌++◌, ◌∷◌, ◌≡◌, ◌⊎◌}

save_lacks : LacksSpace (codes "save")
save_lacks = letters_lack (codes "save") refl

open_lacks : LacksSpace (codes "open")
open_lacks = letters_lack (codes "open") refl

flush_lacks : LacksSpace (codes "flush")
flush_lacks = letters_lack (codes "flush") refl

stat_lacks : LacksSpace (codes "stat")
stat_lacks = letters_lack (codes "stat") refl

module _ (word : List ℕ) (lacks : LacksSpace word) where
  -- a line with one space
  pub two_durable_words : (rest : List ℕ) → LacksSpace rest → (command : DurableCommand) → SpellsDurable (word ++ 32 ∷ rest) command → ⊥
  two_durable_words rest whole (Save name root) h = uncut name.now rest root.now whole
      (sym (cut word (codes "save") rest (name.now ++ 32 ∷ root.now) lacks save_lacks h.2).1)
  two_durable_words rest whole (Open root new) h = uncut root.now rest new.now whole
      (sym (cut word (codes "open") rest (root.now ++ 32 ∷ new.now) lacks open_lacks h.2).1)
  two_durable_words rest whole Flush h = uncut word (codes "flush") rest flush_lacks h
  two_durable_words rest whole Stat h = uncut word (codes "stat") rest stat_lacks h

  -- a line of two words and what stands behind the second space: both of these are names, and the first word is a command's
  pub three_words : (first : List ℕ) → LacksSpace first → (second : List ℕ) (command : DurableCommand)
      → SpellsDurable (word ++ 32 ∷ (first ++ 32 ∷ second)) command
      → IsName first × IsName second × ((word ≡ codes "save") ⊎ (word ≡ codes "open"))
  three_words first whole second (Save name root) h =
      let parts = cut word (codes "save") (first ++ 32 ∷ second) (name.now ++ 32 ∷ root.now) lacks save_lacks h.2 in
      let names = cut first name.now second root.now whole (name_lacks name.now h.0) parts.1 in
      (subst IsName (sym names.0) h.0, subst IsName (sym names.1) h.1, inl parts.0)
  three_words first whole second (Open root new) h =
      let parts = cut word (codes "open") (first ++ 32 ∷ second) (root.now ++ 32 ∷ new.now) lacks open_lacks h.2 in
      let names = cut first root.now second new.now whole (name_lacks root.now h.0) parts.1 in
      (subst IsName (sym names.0) h.0, subst IsName (sym names.1) h.1, inr parts.0)
  three_words first whole second Flush h = absurd (uncut word (codes "flush") (first ++ 32 ∷ second) flush_lacks h)
  three_words first whole second Stat h = absurd (uncut word (codes "stat") (first ++ 32 ∷ second) stat_lacks h)
