-- Numbers of seven bits a byte, byte by byte.
use Rattle.pagable_value_spec.specs.{
  BasicValues.byte_array_form,
  Numbers.{AppendsVarint, Read, byte_at, varint, varint_at, varint_limit},
  Outcomes.Extends,
  ReadSteps.◌>>=◌,
}
use Rattle.std.proofs.{
  Common.{Err, List, Ok, add-one, ap, append_assoc, arith, drop, get_or, length, refl, suc, sym, zero, ℕ, [], ◌%◌, ◌*◌, ◌++◌, ◌+◌, ◌-◌, ◌/◌, ◌<◌, ◌∙◌, ◌∷◌},
  Common.{◌≡◌, ◌≢◌, ◌≤◌},
  Math.Seq.drop-cons,
  lemmas.{Bool.{le-leb, le-ltb, lt-leb, lt-ltb}, List.{append-nil, drop_all}},
}
use Rattle.pagable_value_spec.specs.declared.error.Error.TheVariants as errors

-- What was read so far are the low bits, and what the rest reads as is the high part of the number.
abbrev pub raised : ℕ → ℕ → Read ℕ → Read ℕ
raised low scale (Ok high) = Ok (low + scale * high.0, high.1)
raised low scale (Err e) = Err e

raised_twice : (low scale byte : ℕ) (r : Read ℕ) → raised low scale (raised byte 128 r) ≡ raised (low + scale * byte) (scale * 128) r
raised_twice low scale byte x3 = grind arith

varint_at-long : (more last b : ℕ) (xs : List ℕ) → 128 ≤ b → varint_at (suc more) last (b ∷ xs) ≡ raised (b - 128) 128 (varint_at more last xs)
unfolding varint_at
varint_at-long more last b xs l = rw (le-ltb b 128 l) (go (varint_at more last xs))
  where
    go : (r : Read ℕ) → (r >>= λ high. Ok (b - 128 + 128 * high.0, high.1)) ≡ raised (b - 128) 128 r
    go x0 = grind arith

varint_at-short : (more last b : ℕ) (xs : List ℕ) → b < 128 → varint_at (suc more) last (b ∷ xs) ≡ Ok (b, xs)
unfolding varint_at
varint_at-short more last b xs l = rw (lt-ltb b 128 l) refl

-- a number of one byte
pub varint_at_first : (more last b : ℕ) (xs ys : List ℕ) → byte_at xs ≡ Ok (b, ys) → b < 128 → 0 < more → varint_at more last xs ≡ Ok (b, ys)
varint_at_first more last b [] ys h l p = cc
varint_at_first zero last b (x ∷ xs) ys h l p = absurd (omega arith)
varint_at_first (suc more) last b (x ∷ xs) ys h l p =
    let same : (let read : ℕ × List ℕ = (x, xs) in read) ≡ (b, ys) = cc in
    varint_at-short more last x xs (omega (arith, ap (λ (read : ℕ × List ℕ). read.0) same)) ∙ h

-- after `place` bytes with the top bit set
pub record ReadsOn (more last : ℕ) (bytes : List ℕ) (place low scale : ℕ) : Type 0 where
  pub reads : varint_at more last bytes ≡ raised low scale (varint_at (more - place) last (drop place bytes))
  pub room : (byte : ℕ) → byte < varint_limit (more - place) last → low + scale * byte < varint_limit more last
  pub turn : place ≤ more

-- what such numbers stay below
limit-above : (more last : ℕ) → last < varint_limit more last
unfolding varint_limit
limit-above zero last = omega arith
limit-above (suc more) last = omega (arith, limit-above more last)

-- before the last place one more byte may come
one-left : {more last : ℕ} {bytes : List ℕ} {place low scale : ℕ} → ReadsOn more last bytes place low scale → place ≢ more → more - place
    ≡ suc (more - (place + 1))
one-left r p = omega (arith, r.turn)

-- a byte that may stand here leaves the number below its limit
stands : (left last byte : ℕ) → (left ≡ 0 → byte ≤ last) → byte % 128 < varint_limit left last
unfolding varint_limit
stands zero last byte p = let small : byte ≤ last = p refl in omega arith
stands (suc left) last byte p = omega (arith, limit-above left last)

pub ReadsOn_fits : {more last : ℕ} {bytes : List ℕ} {place low scale : ℕ} (byte : ℕ) → ReadsOn more last bytes place low scale → (place ≡ more → byte ≤ last)
    → low + scale * (byte % 128) < varint_limit more last
ReadsOn_fits {more} {last} {bytes} {place} byte r p = r.room (byte % 128) (stands (more - place) last byte (λ none. p (omega (arith, r.turn))))

pub ReadsOn_scale : {more last : ℕ} {bytes : List ℕ} {place low scale : ℕ} → ReadsOn more last bytes place low scale → place ≢ more → 0 < last
    → low + scale * 255 < varint_limit more last
unfolding varint_limit
ReadsOn_scale {more} {last} {bytes} {place} r p l = r.room 255 (rw (one-left r p) (omega (arith, limit-above (more - (place + 1)) last)))

-- what the next byte and those after it read as is the high part
at_byte : {more last : ℕ} {bytes : List ℕ} {place low scale : ℕ} (byte : ℕ) (high : Read ℕ) → ReadsOn more last bytes place low scale → place < length bytes
    → byte ≡ get_or bytes place 0
    → varint_at (more - place) last (byte ∷ drop (place + 1) bytes) ≡ high → varint_at more last bytes ≡ raised low scale high
at_byte {more} {last} {bytes} {place} {low} {scale} byte high r h e is =
    let here : drop place bytes ≡ byte ∷ drop (place + 1) bytes = rw (e, add-one) (drop-cons bytes place 0 h) in
    r.reads ∙ ap (λ (xs : List ℕ). raised low scale (varint_at (more - place) last xs)) here ∙ ap (raised low scale) is

pub ReadsOn_more : {more last : ℕ} {bytes : List ℕ} {place low scale : ℕ} (byte : ℕ) → ReadsOn more last bytes place low scale → place < length bytes
    → place ≢ more → byte ≡ get_or bytes place 0 - 128
    → 128 ≤ get_or bytes place 0 → get_or bytes place 0 < 256 → ReadsOn more last bytes (place + 1) (low + scale * byte) (scale * 128)
unfolding varint_limit
ReadsOn_more {more} {last} {bytes} {place} {low} {scale} byte r h apart e long small =
    let front : varint_at (more - place) last (get_or bytes place 0 ∷ drop (place + 1) bytes)
    ≡ raised (get_or bytes place 0 - 128) 128 (varint_at (more - (place + 1)) last (drop (place + 1) bytes)) =
    rw (one-left r apart) (varint_at-long _ last _ _ long) in
    record {
      reads = at_byte _ _ r h refl front ∙ rw (← e) (raised_twice low scale byte (varint_at (more - (place + 1)) last (drop (place + 1) bytes)));
      room = λ next h. let both : low + scale * (byte + 128 * next) < varint_limit more last =
          r.room (byte + 128 * next) (rw (one-left r apart) (omega arith)) in omega arith;
      turn = omega (arith, r.turn);
    }

-- how reading ends
ends : (left last byte : ℕ) (xs : List ℕ) → (left ≡ 0 → byte ≤ last) → byte < 128 → varint_at left last (byte ∷ xs) ≡ Ok (byte, xs)
unfolding varint_at
ends zero last byte xs p small = rw (le-leb byte last (p refl)) refl
ends (suc left) last byte xs p small = varint_at-short left last byte xs small

pub ReadsOn_end : {more last : ℕ} {bytes : List ℕ} {place low scale : ℕ} (byte : ℕ) → ReadsOn more last bytes place low scale → place < length bytes → byte
    ≡ get_or bytes place 0
    → (place ≡ more → byte ≤ last) → byte < 128
    → varint_at more last bytes ≡ Ok (low + scale * (byte % 128), drop (place + 1) bytes)
ReadsOn_end {more} {last} {bytes} {place} byte r h e p small =
    let same : byte % 128 ≡ byte = omega arith in
    rw same (at_byte byte (Ok (byte, drop (place + 1) bytes)) r h e (ends (more - place) last byte _ (λ none. p (omega (arith, r.turn))) small))

pub ReadsOn_bad : {more last : ℕ} {bytes : List ℕ} {place low scale : ℕ} → ReadsOn more last bytes place low scale → place < length bytes → place ≡ more
    → last < get_or bytes place 0 → varint_at more last bytes ≡ Err errors.BadVarint
unfolding varint_at
ReadsOn_bad {more} {last} {bytes} {place} r h whole big =
    let none : more - place ≡ 0 = omega arith in at_byte (get_or bytes place 0) (Err errors.BadVarint) r h refl
    (rw (none, lt-leb (get_or bytes place 0) last big) refl)

pub ReadsOn_short : {more last : ℕ} {bytes : List ℕ} {place low scale : ℕ} → ReadsOn more last bytes place low scale → length bytes ≤ place
    → varint_at more last bytes ≡ Err errors.UnexpectedEnd
unfolding varint_at
ReadsOn_short {more} {last} {bytes} {place} {low} {scale} r h = r.reads ∙ ap (λ (xs : List ℕ). raised low scale (varint_at (more - place) last xs))
    (drop_all place bytes h)

varint-short : (more n : ℕ) → n < 128 → varint more n ≡ n ∷ []
unfolding varint
varint-short zero n l = refl
varint-short (suc more) n l = rw (lt-ltb n 128 l) refl

pub Extends_end : {X : Type 0} (a b c : List X) → b ≡ a ++ c → Extends a b
Extends_end a b c e = (c, e)

pub Extends_twice : {X : Type 0} (a b c : List X) → Extends a b → Extends b c → Extends a c
Extends_twice a b c p q = (p.0 ++ q.0, q.1 ∙ ap (λ x. x ++ q.0) p.1 ∙ append_assoc a p.0 q.0)

-- what is still to be written after some bytes with the top bit set, whatever width is meant
pub record WritesOn (start here : List ℕ) (number rest : ℕ) : Type 0 where
  pub still : (more : ℕ) → number < varint_limit more 127 → (less : ℕ) × (rest < varint_limit less 127)
      × (start ++ varint more number ≡ here ++ varint less rest)
  pub extends : Extends start here

pub WritesOn_none : (start : List ℕ) (number : ℕ) → WritesOn start start number number
WritesOn_none start number = record {
  still = λ more h. (more, h, refl);
  extends = ([], sym (append-nil start));
}

pub WritesOn_more : {start here next : List ℕ} {number rest : ℕ} (byte : ℕ) → WritesOn start here number rest → 128 ≤ rest → byte ≡ 128 + rest % 128 → next
    ≡ here ++ byte ∷ [] → WritesOn start next number (rest / 128)
unfolding varint_limit varint
WritesOn_more {start} {here} {next} {number} {rest} byte w l b e = record {
  still = λ more h. let s = w.still more h in go more s.0 s.1 s.2;
  extends = Extends_twice start here next w.extends (Extends_end here next (byte ∷ []) e);
}
  where
    go : (more less : ℕ) → rest < varint_limit less 127 → start ++ varint more number ≡ here ++ varint less rest
        → (left : ℕ) × (rest / 128 < varint_limit left 127) × (start ++ varint more number ≡ next ++ varint left (rest / 128))
    go more zero fits same = absurd (omega arith)
    go more (suc less) fits same = (less, omega arith, same ∙ rw (le-ltb rest 128 l, ← b, e, append_assoc) refl)

pub WritesOn_last : {start here next : List ℕ} {number rest : ℕ} → WritesOn start here number rest → rest < 128 → next ≡ here ++ rest ∷ []
    → AppendsVarint start next number
WritesOn_last {start} {here} {next} {number} {rest} w l e = record {
  appends = λ more h. let s = w.still more h in e ∙ ap (λ xs. here ++ xs) (sym (varint-short s.0 rest l)) ∙ sym s.2;
}

pub ruleset reading = (ReadsOn_fits, ReadsOn_scale, ReadsOn_end, ReadsOn_bad, ReadsOn_short)

-- after `held` bytes, and before `limit`, there is room for the number's varint
pub record HasRoomFor (held limit number : ℕ) : Type 0 where
  pub room : (less : ℕ) × (number < varint_limit less 127) × (held + (less + 1) ≤ limit)

pub HasRoomFor-64 : (held number : ℕ) → number ≤ 18446744073709551615 → HasRoomFor held (held + 10) number
unfolding varint_limit
HasRoomFor-64 held number small = record { room = (9, omega arith, omega arith) }

pub HasRoomFor-128 : (held number : ℕ) → number ≤ 340282366920938463463374607431768211455 → HasRoomFor held (held + 19) number
unfolding varint_limit
HasRoomFor-128 held number small = record { room = (18, omega arith, omega arith) }

pub HasRoomFor_more : {held next limit rest : ℕ} → HasRoomFor held limit rest → 128 ≤ rest → next ≡ held + 1 → HasRoomFor next limit (rest / 128)
unfolding varint_limit
HasRoomFor_more {held} {next} {limit} {rest} r l e = record { room = go r.room.0 r.room.1 r.room.2 }
  where
    go : (less : ℕ) → rest < varint_limit less 127 → held + (less + 1) ≤ limit
        → (left : ℕ) × (rest / 128 < varint_limit left 127) × (next + (left + 1) ≤ limit)
    go zero fits room = absurd (omega arith)
    go (suc less) fits room = (less, omega arith, omega arith)

pub HasRoomFor_one : {held limit rest : ℕ} → HasRoomFor held limit rest → held < limit
HasRoomFor_one r = omega (arith, r.room.2)

pub AppendsVarint_short : {start next : List ℕ} {number : ℕ} → number < 128 → next ≡ start ++ number ∷ [] → AppendsVarint start next number
AppendsVarint_short {start} {next} {number} l e = WritesOn_last (WritesOn_none start number) l e

-- a length, and the bytes that have it
pub AppendsVarint_counted : {start front next : List ℕ} (added : List ℕ) → AppendsVarint start front (length added)
    → length added ≤ 18446744073709551615 → next ≡ front ++ added → next ≡ start ++ byte_array_form added
unfolding varint_limit
AppendsVarint_counted {start} {front} {next} added w l e =
    e ∙ ap (λ xs. xs ++ added) (w.appends 9 (omega arith)) ∙ append_assoc start (varint 9 (length added)) added

pub ruleset writing = (WritesOn_none, WritesOn_last, Extends_twice, Extends_end, HasRoomFor_one, AppendsVarint_short)
