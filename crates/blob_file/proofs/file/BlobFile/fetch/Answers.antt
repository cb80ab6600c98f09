use Rattle.std.proofs.Common.{inl, inr, sym, ◌+◌, ◌∙◌, ℕ, ap, List, length, arith}
use Rattle.blob_file.proofs.Looks.{all_batches, in_file}
use Rattle.blob_file.proofs.Placing.{all_here}
use Rattle.blob_file.proofs.file.BlobFile.fetch.Goals as goal

pub read_body-requires-clause-within : goal.read_body-requires-clause-within
read_body-requires-clause-within g c clean low =
    let s = c.requires.settled in
    let it = c.args.self.now in
    let found = sym (s.places c.if-not-self.false clean c.args.key) ∙ sym c.find.ensures ∙ c.in-Some.is in
    in_file (g.D.Disk.seen it.log.disk) it.rows.items (it.log.gate + 25) (s.open_log.formed c.if-not-self.false clean) c.args.key c.in-Some.place found
    (omega (arith, low))

pub read_body-requires-clause-held : goal.read_body-requires-clause-held
read_body-requires-clause-held g c clean high =
    let s = c.requires.settled in
    let it = c.args.self.now in
    let found = sym (s.places c.if-not-self.false clean c.args.key) ∙ sym c.find.ensures ∙ c.in-Some.is in
    elim (all_here _ _ _ _ (s.open_log.place c.if-not-self.false clean) (all_batches (g.D.Disk.seen it.log.disk))
    (s.open_log.formed c.if-not-self.false clean) s.held c.args.key c.in-Some.place found) [
      | inl inside ↦ absurd (omega (arith, inside, high))
      | inr held ↦ omega (arith, held.1, high, ap (λ (l : List ℕ). length l) c.deref.ensures.value)
    ]
