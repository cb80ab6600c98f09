-- Lines that are taken apart at their spaces.
use Rattle.named_texts.specs.{
  Line.{IsName, LacksSpace, Spells, word_of},
  declared.command.Command.{Command, TheVariants.{Clone, New, PageOut, Pending, Pin, Release, RunVerb}},
  declared.command.Verb.{TheVariants.{Count, IsPagedOut, Key, Loose, Unpin}, Verb},
}
use Rattle.std.proofs.{
  Common.{Bor, List, None, Some, arith, codes, get_or, inl, inr, length, refl, subst, suc, sym, true, ℕ, [], ◌++◌, ◌<◌, ◌∷◌, ◌≡◌, ◌≢◌, ◌⊎◌},
  lemmas.Str.Pattern.{IsSplitOnceResult, split_parts},
}
use Rattle.std.specs.{Char.is_ascii_alphanumeric, List.list_all}

pub letters_lack : (w : List ℕ) → list_all is_ascii_alphanumeric w ≡ true → LacksSpace w
letters_lack [] h = tt
letters_lack (b ∷ w) h = ((λ is. grind arith), letters_lack w (grind arith))

-- what stands before the first space, and what behind it
pub cut : (a b x y : List ℕ) → LacksSpace a → LacksSpace b → a ++ 32 ∷ x ≡ b ++ 32 ∷ y → (a ≡ b) × (x ≡ y)
cut [] [] x y f g e = grind arith
cut [] (d ∷ b) x y f g e = absurd (g.0 (grind arith))
cut (c ∷ a) [] x y f g e = absurd (f.0 (grind arith))
cut (c ∷ a) (d ∷ b) x y f g e =
    let h = cut a b x y f.1 g.1 (grind arith) in
    grind arith

-- there is no space to cut at
pub uncut : (a b x : List ℕ) → LacksSpace b → a ++ 32 ∷ x ≡ b → ⊥
uncut [] [] x g e = grind arith
uncut [] (d ∷ b) x g e = g.0 (grind arith)
uncut (c ∷ a) [] x g e = grind arith
uncut (c ∷ a) (d ∷ b) x g e = uncut a b x g.1 (grind arith)

new_lacks : LacksSpace (codes "new")
new_lacks = letters_lack (codes "new") refl

pin_lacks : LacksSpace (codes "pin")
pin_lacks = letters_lack (codes "pin") refl

clone_lacks : LacksSpace (codes "clone")
clone_lacks = letters_lack (codes "clone") refl

release_lacks : LacksSpace (codes "release")
release_lacks = letters_lack (codes "release") refl

pending_lacks : LacksSpace (codes "pending")
pending_lacks = letters_lack (codes "pending") refl

pageout_lacks : LacksSpace (codes "pageout")
pageout_lacks = letters_lack (codes "pageout") refl

word_lacks : (verb : Verb) → LacksSpace (word_of verb)
word_lacks Unpin = letters_lack (codes "unpin") refl
word_lacks Loose = letters_lack (codes "loose") refl
word_lacks Count = letters_lack (codes "count") refl
word_lacks Key = letters_lack (codes "key") refl
word_lacks IsPagedOut = letters_lack (codes "out") refl

pub name_lacks : (w : List ℕ) → IsName w → LacksSpace w
name_lacks w h = letters_lack w h.2

module _ (word name : List ℕ) (lacks : LacksSpace word) (whole : LacksSpace name) where
  -- a line of two words: the second is a name, and the first is one of those that a name alone may follow
  pub two_words : (command : Command) → Spells (word ++ 32 ∷ name) command → IsName name
      × ((word ≡ codes "new") ⊎ ((word ≡ codes "release") ⊎ ((verb : Verb) × (word ≡ word_of verb))))
  two_words (New n text) (named, inl e) = absurd (uncut n.now name text.now whole
      (sym (cut word (codes "new") name (n.now ++ 32 ∷ text.now) lacks new_lacks e).1))
  two_words (New n text) (named, inr e) =
      let parts = cut word (codes "new") name n.now lacks new_lacks e.0 in (subst IsName (sym parts.1) named, inl parts.0)
  two_words (Pin n new) h = absurd (uncut n.now name new.now whole (sym (cut word (codes "pin") name (n.now ++ 32 ∷ new.now) lacks pin_lacks h.2).1))
  two_words (Clone n new) h = absurd (uncut n.now name new.now whole (sym (cut word (codes "clone") name (n.now ++ 32 ∷ new.now) lacks clone_lacks h.2).1))
  two_words (Release n) h = let parts = cut word (codes "release") name n.now lacks release_lacks h.1 in (subst IsName (sym parts.1) h.0, inr (inl parts.0))
  two_words (RunVerb verb n) h = let parts = cut word (word_of verb) name n.now lacks (word_lacks verb) h.1 in
      (subst IsName (sym parts.1) h.0, inr (inr (verb, parts.0)))
  two_words Pending h = absurd (uncut word (codes "pending") name pending_lacks h)
  two_words PageOut h = absurd (uncut word (codes "pageout") name pageout_lacks h)

  -- a line of two words and what stands behind the second space
  pub more_words : (behind : List ℕ) (command : Command) → Spells (word ++ 32 ∷ (name ++ 32 ∷ behind)) command
      → IsName name × ((word ≡ codes "new") ⊎ (IsName behind × ((word ≡ codes "pin") ⊎ (word ≡ codes "clone"))))
  more_words behind (New n text) (named, inl e) =
      let parts = cut word (codes "new") (name ++ 32 ∷ behind) (n.now ++ 32 ∷ text.now) lacks new_lacks e in
      let named_parts = cut name n.now behind text.now whole (name_lacks n.now named) parts.1 in (subst IsName (sym named_parts.0) named, inl parts.0)
  more_words behind (New n text) (named, inr e) = absurd (uncut name n.now behind (name_lacks n.now named)
      (cut word (codes "new") (name ++ 32 ∷ behind) n.now lacks new_lacks e.0).1)
  more_words behind (Pin n new) h =
      let parts = cut word (codes "pin") (name ++ 32 ∷ behind) (n.now ++ 32 ∷ new.now) lacks pin_lacks h.2 in
      let named = cut name n.now behind new.now whole (name_lacks n.now h.0) parts.1 in
      (subst IsName (sym named.0) h.0, inr (subst IsName (sym named.1) h.1, inl parts.0))
  more_words behind (Clone n new) h =
      let parts = cut word (codes "clone") (name ++ 32 ∷ behind) (n.now ++ 32 ∷ new.now) lacks clone_lacks h.2 in
      let named = cut name n.now behind new.now whole (name_lacks n.now h.0) parts.1 in
      (subst IsName (sym named.0) h.0, inr (subst IsName (sym named.1) h.1, inr parts.0))
  more_words behind (Release n) h = absurd (uncut name n.now behind (name_lacks n.now h.0)
      (cut word (codes "release") (name ++ 32 ∷ behind) n.now lacks release_lacks h.1).1)
  more_words behind (RunVerb verb n) h = absurd (uncut name n.now behind (name_lacks n.now h.0)
      (cut word (word_of verb) (name ++ 32 ∷ behind) n.now lacks (word_lacks verb) h.1).1)
  more_words behind Pending h = absurd (uncut word (codes "pending") (name ++ 32 ∷ behind) pending_lacks h)
  more_words behind PageOut h = absurd (uncut word (codes "pageout") (name ++ 32 ∷ behind) pageout_lacks h)

lacking : (w : List ℕ) → ((i : ℕ) → i < length w → get_or w i 0 ≢ 32) → LacksSpace w
lacking [] h = tt
lacking (b ∷ w) h = (h 0 (omega arith), lacking w (λ i l. h (suc i) (omega (arith, l))))

-- what `split_once` at a space says of what it answers
pub split_some : (text : List ℕ) (x : Bor (List ℕ) × Bor (List ℕ)) → IsSplitOnceResult 32 text (Some x) → LacksSpace x.0.now × (text ≡ x.0.now ++ 32 ∷ x.1.now)
split_some text x h = let m = split_parts 32 text (Some x) h (omega arith) in (lacking x.0.now m.1, m.0)

pub split_none : (text : List ℕ) → IsSplitOnceResult 32 text None → LacksSpace text
split_none text h = lacking text (split_parts 32 text None h (omega arith))
