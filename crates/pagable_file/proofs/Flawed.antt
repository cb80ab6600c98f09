-- Which flaws a test of a file of blobs tells.
use Rattle.blob_file.specs.{File.{Lists, Same, content, named, stored}, Rows.Body, declared.{file.BlobFile.BlobFile, listing.ListedBlob.ListedBlob as FileEntry}}
use Rattle.pagable_file.proofs.Each.{all_with, each_append, each_so}
use Rattle.pagable_file.specs.{Bodies.{blob_if_some, blobs_of}, Flaws.{IsFlaw, IsFlawAt, IsFlawOfBlobs, IsFlawOfNames, IsFlawUnder, IsIfMissing, IsLike, IsMissingChild, IsMissingRoot, IsOfSome, IsSoundAt, IsSoundName, IsStray, IsThere, IsTold, IsWhole, IsWholeUnder, IsWrongKey, Stays, TellsFlaws}, declared.fsck.Flaw.Flaw}
use Rattle.pagable_value_spec.specs.Blob.{Blob}
use Rattle.sqlite_disk.specs.declared.Disk.{Ghosts}
use Rattle.std.proofs.{Common.{List, None, Option, Some, String, ap, append-nil, append_assoc, arith, false, get_or, length, map, refl, string_bytes, subst, suc, sym, take, true, zero, ℕ, []}, Common.{◌++◌, ◌+◌, ◌<◌, ◌∙◌, ◌∷◌, ◌≡◌, ◌≢◌, ◌≤◌, ◌⊎◌, inl, inr}, lemmas.List.{Elements.{All-contains, All-from_recursion, Contains-append_left, Contains-append_right, Contains-push, Contains-push_cases}, take_all, take_more}}
use Rattle.std.specs.{Global.Global, List.{AllByRecursion as Each, Contains}, Prelude.{IfNone, IfSome, IsSome, is_some, option_map, ◌↔◌}}
use Rattle.pagable_file.specs.declared.fsck.Flaw.TheVariants as flaw

-- a flaw is like itself
like_itself : (it : Flaw) → IsLike it it
like_itself (flaw.StrayBlob key) = refl
like_itself (flaw.WrongKey key) = refl
like_itself (flaw.MissingChild key child) = refl
like_itself (flaw.MissingRoot name key) = (name, refl, refl)

like_then : (a b c : Flaw) → IsLike a b → IsLike b c → IsLike a c
like_then (flaw.StrayBlob key) b c is like = subst (λ (it : Flaw). IsLike it c) is like
like_then (flaw.WrongKey key) b c is like = subst (λ (it : Flaw). IsLike it c) is like
like_then (flaw.MissingChild key child) b c is like = subst (λ (it : Flaw). IsLike it c) is like
like_then (flaw.MissingRoot name key) b c is like =
    let again : IsLike (flaw.MissingRoot is.0 key) c = subst (λ (it : Flaw). IsLike it c) is.1 like in
    (again.0, again.1, again.2 ∙ is.2)

told_left : (xs ys : List Flaw) (it : Flaw) → IsTold xs it → IsTold (xs ++ ys) it
told_left xs ys it h = (h.0, Contains-append_left xs ys h.0 h.1, h.2)

told_right : (xs ys : List Flaw) (it : Flaw) → IsTold ys it → IsTold (xs ++ ys) it
told_right xs ys it h = (h.0, Contains-append_right xs ys h.0 h.1, h.2)

left_empty : {X : Type 0} (xs ys : List X) → xs ++ ys ≡ [] → xs ≡ []
left_empty [] ys h = refl
left_empty (x ∷ xs) ys h = absurd (let no : ⊥ = cc in no)

right_empty : {X : Type 0} (xs ys : List X) → xs ++ ys ≡ [] → ys ≡ []
right_empty [] ys h = h
right_empty (x ∷ xs) ys h = absurd (let no : ⊥ = cc in no)

-- one flaw was told
pub flawed : {P : Flaw → Type 0} {old new : List Flaw} (x : Flaw) {Q : Type 0} → new ≡ old ++ x ∷ [] → P x → ((it : Flaw) → P it → IsLike it x)
    → TellsFlaws P old new Q
flawed x is here only = record {
  told = x ∷ [];
  is = is;
  real = (here, tt);
  each = λ it p. (x, Contains-push [] x, only it p);
  clear = λ none. absurd (let no : ⊥ = cc in no);
}

-- there was none to tell
pub passed : {P : Flaw → Type 0} {old : List Flaw} {Q : Type 0} → ((it : Flaw) → P it → ⊥) → Q → TellsFlaws P old old Q
passed {old = old} none holds = record {
  told = [];
  is = sym (append-nil old);
  real = tt;
  each = λ it p. absurd (none it p);
  clear = λ empty. holds;
}

pub tested_then : {P R : Flaw → Type 0} {a b c : List Flaw} {Q S : Type 0} → TellsFlaws P a b Q → TellsFlaws R b c S
    → TellsFlaws (λ it. P it ⊎ R it) a c (Q × S)
tested_then {P} {R} {a} f g = record {
  told = f.told ++ g.told;
  is = g.is ∙ ap (λ (l : List Flaw). l ++ g.told) f.is ∙ append_assoc a f.told g.told;
  real = each_append (λ it. P it ⊎ R it) f.told g.told (each_so P (λ it. P it ⊎ R it) f.told (λ it h. inl h) f.real)
      (each_so R (λ it. P it ⊎ R it) g.told (λ it h. inr h) g.real);
  each = λ it h. elim h [
    | inl p ↦ told_left f.told g.told it (f.each it p)
    | inr r ↦ told_right f.told g.told it (g.each it r)
  ];
  clear = λ none. (f.clear (left_empty f.told g.told none), g.clear (right_empty f.told g.told none));
}

-- the same, of flaws that are alike
pub tested_like : {P R : Flaw → Type 0} {a b : List Flaw} {Q S : Type 0} → ((it : Flaw) → P it → R it)
    → ((it : Flaw) → R it → (one : Flaw) × P one × IsLike it one) → (Q → S) → TellsFlaws P a b Q → TellsFlaws R a b S
tested_like {P} {R} to from goes t = record {
  told = t.told;
  is = t.is;
  real = each_so P R t.told to t.real;
  each = λ it r.
      let one = from it r in
      let all = t.each one.0 one.1 in
      (all.0, all.1, like_then it one.0 all.0 one.2 all.2);
  clear = λ none. goes (t.clear none);
}

pub tested_as : {P R : Flaw → Type 0} {a b : List Flaw} {Q S : Type 0} → ((it : Flaw) → P it → R it) → ((it : Flaw) → R it → P it) → (Q → S)
    → TellsFlaws P a b Q → TellsFlaws R a b S
tested_as to from goes t = tested_like to (λ it r. (it, from it r, like_itself it)) goes t

-- no element of an empty list has a flaw
pub none_yet : {A : Type 0} (flaws : A → Flaw → Type 0) (it : Flaw) → IsOfSome flaws [] it → ⊥
none_yet flaws it h = absurd (omega (arith, h.1.1))

-- one more element of a list was tested
pub each_next : {A : Type 0} (flaws : A → Flaw → Type 0) (T : A → Type 0) {a b c : List Flaw} (xs : List A) (i : ℕ) (x : A) → i < length xs
    → x ≡ get_or xs i x → TellsFlaws (IsOfSome flaws (take i xs)) a b (Each T (take i xs)) → TellsFlaws (flaws x) b c (T x)
    → TellsFlaws (IsOfSome flaws (take (i + 1) xs)) a c (Each T (take (i + 1) xs))
each_next {A} flaws T xs i x h is f g = rw (take_more xs i x h, ← is) (tested_as to from (λ all. all_with T T x (λ y holds. holds) all.1 (take i xs) all.0) (tested_then f g))
  where
    to : (it : Flaw) → IsOfSome flaws (take i xs) it ⊎ flaws x it → IsOfSome flaws (take i xs ++ x ∷ []) it
    to it (inl s) = (s.0, Contains-append_left (take i xs) (x ∷ []) s.0 s.1, s.2)
    to it (inr p) = (x, Contains-push (take i xs) x, p)

    from : (it : Flaw) → IsOfSome flaws (take i xs ++ x ∷ []) it → IsOfSome flaws (take i xs) it ⊎ flaws x it
    from it s = elim (Contains-push_cases (take i xs) x s.0 s.1) [
      | inl among ↦ inl (s.0, among, s.2)
      | inr same ↦ inr (subst (λ (y : A). flaws y it) (sym same) s.2)
    ]

pub each_tested : {A : Type 0} (flaws : A → Flaw → Type 0) (T : A → Type 0) {a b : List Flaw} (xs : List A) (n : ℕ) → length xs ≤ n
    → TellsFlaws (IsOfSome flaws (take n xs)) a b (Each T (take n xs)) → TellsFlaws (IsOfSome flaws xs) a b (Each T xs)
each_tested flaws T xs n h t = rw (take_all n xs h) at t

-- what stands under a key and is sound has no flaw
no_flaw_at : (of : Blob → ℕ) (bodies : ℕ → Option Body) (at : ℕ) (it : Flaw) → IsSoundAt of bodies at → IsFlawAt of bodies at it → ⊥
no_flaw_at of bodies at (flaw.StrayBlob key) sound h =
    let here : IsSoundAt of bodies key = rw h.0 sound in
    elim h.1.2 [
      | inl at_zero ↦ (here h.1.0 h.1.1).can at_zero
      | inr none ↦ absurd (let both : None ≡ Some (here h.1.0 h.1.1).blob = sym none ∙ (here h.1.0 h.1.1).is in cc)
    ]
no_flaw_at of bodies at (flaw.WrongKey key) sound h = under (bodies key) refl h.1.1.1
  where
    under : (o : Option Body) → bodies key ≡ o → blob_if_some o ≡ Some h.1.1.0 → ⊥
    under None e is = absurd (cc)
    under (Some body) e is =
        let here : IsSoundAt of bodies key = rw h.0 sound in
        let one : (here body e).blob ≡ h.1.1.0 = let both : Some (here body e).blob ≡ Some h.1.1.0 = sym (here body e).is ∙ is in cc in
        h.1.1.2 (sym (ap of one) ∙ (here body e).keyed)
no_flaw_at of bodies at (flaw.MissingChild key child) sound h = under (bodies key) refl h.1.1.1
  where
    under : (o : Option Body) → bodies key ≡ o → blob_if_some o ≡ Some h.1.1.0 → ⊥
    under None e is = absurd (cc)
    under (Some body) e is =
        let here : IsSoundAt of bodies key = rw h.0 sound in
        let one : (here body e).blob ≡ h.1.1.0 = let both : Some (here body e).blob ≡ Some h.1.1.0 = sym (here body e).is ∙ is in cc in
        let kids : Each (IsThere bodies) h.1.1.0.keys = rw (← one) (here body e).children in
        cc (All-contains (IsThere bodies) h.1.1.0.keys child (All-from_recursion (IsThere bodies) h.1.1.0.keys kids) h.1.1.2, h.1.2)
no_flaw_at of bodies at (flaw.MissingRoot name key) sound h = absurd h.0

-- nor has a name whose blob is there
no_missing_root : (bodies : ℕ → Option Body) (names : List ℕ → Option ℕ) (name : List ℕ) (it : Flaw) → IsSoundName bodies names name
    → IsMissingRoot bodies names name it → ⊥
no_missing_root bodies names name (flaw.StrayBlob key) sound h = absurd h
no_missing_root bodies names name (flaw.WrongKey key) sound h = absurd h
no_missing_root bodies names name (flaw.MissingChild key child) sound h = absurd h
no_missing_root bodies names name (flaw.MissingRoot own key) sound h = cc (sound key h.1, h.2)

-- a flaw is one of blobs or one of names
flaw_parts : (of : Blob → ℕ) (bodies : ℕ → Option Body) (names : List ℕ → Option ℕ) (it : Flaw) → IsFlaw of bodies names it
    → IsFlawOfBlobs of bodies it ⊎ IsFlawOfNames bodies names it
flaw_parts of bodies names (flaw.StrayBlob key) h = inl (key, (refl, h))
flaw_parts of bodies names (flaw.WrongKey key) h = inl (key, (refl, h))
flaw_parts of bodies names (flaw.MissingChild key child) h = inl (key, (refl, h))
flaw_parts of bodies names (flaw.MissingRoot name key) h = inr (string_bytes name, (refl, h.0, h.1))

flaw_of_parts : (of : Blob → ℕ) (bodies : ℕ → Option Body) (names : List ℕ → Option ℕ) (it : Flaw)
    → IsFlawOfBlobs of bodies it ⊎ IsFlawOfNames bodies names it → IsFlaw of bodies names it
flaw_of_parts of bodies names (flaw.StrayBlob key) (inl h) = h.1.1
flaw_of_parts of bodies names (flaw.WrongKey key) (inl h) = h.1.1
flaw_of_parts of bodies names (flaw.MissingChild key child) (inl h) = h.1.1
flaw_of_parts of bodies names (flaw.MissingRoot name key) (inl h) = absurd h.1.0
flaw_of_parts of bodies names (flaw.StrayBlob key) (inr h) = absurd h.1
flaw_of_parts of bodies names (flaw.WrongKey key) (inr h) = absurd h.1
flaw_of_parts of bodies names (flaw.MissingChild key child) (inr h) = absurd h.1
flaw_of_parts of bodies names (flaw.MissingRoot name key) (inr h) = (ap names h.1.0 ∙ h.1.1, h.1.2)

-- a search that began with no flaw tells all of them, and none but flaws
none_real : (P : Flaw → Type 0) (all : List Flaw) → ((it : Flaw) → P it → ⊥) → Each P all → all ≡ []
none_real P [] none h = refl
none_real P (it ∷ all) none h = absurd (none it h.0)

pub exactly : {P : Flaw → Type 0} {all : List Flaw} {Q : Type 0} → (Q → (it : Flaw) → P it → ⊥) → TellsFlaws P [] all Q → (all ≡ []) ↔ Q
exactly {P} {all} none t = (λ empty. t.clear (sym t.is ∙ empty), λ q. t.is ∙ none_real P t.told (none q) t.real)

pub whole_unflawed : (of : Blob → ℕ) (bodies : ℕ → Option Body) (names : List ℕ → Option ℕ) → IsWhole of bodies names → (it : Flaw)
    → IsFlaw of bodies names it → ⊥
whole_unflawed of bodies names w it h = elim (flaw_parts of bodies names it h) [
  | inl of_blob ↦ no_flaw_at of bodies of_blob.0 it (w.blobs of_blob.0) of_blob.1
  | inr of_name ↦ no_missing_root bodies names of_name.0 it (w.named of_name.0) of_name.1
]

pub root_unflawed : (of : Blob → ℕ) (bodies : ℕ → Option Body) (names : List ℕ → Option ℕ) (name : List ℕ) → IsWholeUnder of bodies names name → (it : Flaw)
    → IsFlawUnder of bodies names name it → ⊥
root_unflawed of bodies names name w it (inl missing) = no_missing_root bodies names name it w.named missing
root_unflawed of bodies names name w it (inr under) = no_flaw_at of bodies under.0 it (w.blobs under.0 under.1) under.2

pub all_real : {P : Flaw → Type 0} {all : List Flaw} {Q : Type 0} → TellsFlaws P [] all Q → Each P all
all_real {P} t = subst (Each P) (sym t.is) t.real

pub all_told : {P : Flaw → Type 0} {all : List Flaw} {Q : Type 0} → TellsFlaws P [] all Q → (it : Flaw) → P it → IsTold all it
all_told t it p = subst (λ (l : List Flaw). IsTold l it) (sym t.is) (t.each it p)

-- what is missing is told
pub missing : (bodies : ℕ → Option Body) (key : ℕ) (wanted : Flaw) {old new : List Flaw} → new ≡ old ++ wanted ∷ [] → bodies key ≡ None
    → TellsFlaws (IsIfMissing bodies key wanted) old new (IsThere bodies key)
missing bodies key wanted is none = flawed wanted is (refl, none) (λ it h. subst (IsLike it) h.0 (like_itself it))

pub present : (bodies : ℕ → Option Body) (key : ℕ) (wanted : Flaw) {old : List Flaw} → IsThere bodies key
    → TellsFlaws (IsIfMissing bodies key wanted) old old (IsThere bodies key)
present bodies key wanted there = passed (λ it h. cc (there, h.1)) there

-- the key of a blob was tested
pub other_key : (of : Blob → ℕ) (key : ℕ) (blob : Blob) {old new : List Flaw} → new ≡ old ++ flaw.WrongKey key ∷ [] → of blob ≢ key
    → TellsFlaws (IsWrongKey of key blob) old new (of blob ≡ key)
other_key of key blob is apart = flawed (flaw.WrongKey key) is (refl, apart) (λ it h. subst (IsLike it) h.0 (like_itself it))

pub own_key : (of : Blob → ℕ) (key : ℕ) (blob : Blob) {old : List Flaw} → of blob ≡ key → TellsFlaws (IsWrongKey of key blob) old old (of blob ≡ key)
own_key of key blob same = passed (λ it h. h.1 same) same

-- what has a flaw under a key is there
no_flaw_of_none : (of : Blob → ℕ) (bodies : ℕ → Option Body) (at : ℕ) (it : Flaw) → bodies at ≡ None → IsFlawAt of bodies at it → ⊥
no_flaw_of_none of bodies at (flaw.StrayBlob key) none h = let both : None ≡ Some h.1.0 = sym none ∙ sym (ap bodies h.0) ∙ h.1.1 in cc
no_flaw_of_none of bodies at (flaw.WrongKey key) none h =
    let both : None ≡ Some h.1.1.0 = sym (ap blob_if_some none) ∙ sym (ap (blobs_of bodies) h.0) ∙ h.1.1.1 in cc
no_flaw_of_none of bodies at (flaw.MissingChild key child) none h =
    let both : None ≡ Some h.1.1.0 = sym (ap blob_if_some none) ∙ sym (ap (blobs_of bodies) h.0) ∙ h.1.1.1 in cc
no_flaw_of_none of bodies at (flaw.MissingRoot name key) none h = h.0

-- nothing is under the key
pub none_at : (of : Blob → ℕ) (bodies : ℕ → Option Body) (at : ℕ) {old : List Flaw} → bodies at ≡ None
    → TellsFlaws (IsFlawAt of bodies at) old old (IsSoundAt of bodies at)
none_at of bodies at none = passed (λ it. no_flaw_of_none of bodies at it none)
    (λ body here. absurd (let both : None ≡ Some body = sym none ∙ here in cc))

-- a body that is no blob's
pub stray_body : (of : Blob → ℕ) (bodies : ℕ → Option Body) (at : ℕ) (body : Body) {old new : List Flaw} → new ≡ old ++ flaw.StrayBlob at ∷ []
    → bodies at ≡ Some body → IsStray at body → TellsFlaws (IsFlawAt of bodies at) old new (IsSoundAt of bodies at)
stray_body of bodies at body is here stray = flawed (flaw.StrayBlob at) is (refl, (body, here, stray)) only
  where
    no_blob : (key : ℕ) (blob : Blob) → key ≡ at → key ≢ 0 → blobs_of bodies key ≡ Some blob → ⊥
    no_blob key blob same can is = elim stray [
      | inl at_zero ↦ can (same ∙ at_zero)
      | inr none ↦ absurd (let both : None ≡ Some blob = sym none ∙ sym (ap blob_if_some here) ∙ sym (ap (blobs_of bodies) same) ∙ is in cc)
    ]

    only : (it : Flaw) → IsFlawAt of bodies at it → IsLike it (flaw.StrayBlob at)
    only (flaw.StrayBlob key) h = ap (λ (k : ℕ). flaw.StrayBlob k) (sym h.0)
    only (flaw.WrongKey key) h = absurd (no_blob key h.1.1.0 h.0 h.1.0 h.1.1.1)
    only (flaw.MissingChild key child) h = absurd (no_blob key h.1.1.0 h.0 h.1.0 h.1.1.1)
    only (flaw.MissingRoot name key) h = absurd h.0

-- a body that is a blob's, whose key and children were tested
pub keyed_body : (of : Blob → ℕ) (bodies : ℕ → Option Body) (at key : ℕ) (blob : Blob) (children : List ℕ) {a b c : List Flaw} → key ≡ at → at ≢ 0
    → blobs_of bodies at ≡ Some blob → children ≡ blob.keys → TellsFlaws (IsWrongKey of key blob) a b (of blob ≡ key)
    → TellsFlaws (IsOfSome (IsMissingChild bodies key) children) b c (Each (IsThere bodies) children)
    → TellsFlaws (IsFlawAt of bodies at) a c (IsSoundAt of bodies at)
keyed_body of bodies at key blob children same can is kids f g = tested_as to from sound (tested_then f g)
  where
    sound : (of blob ≡ key) × Each (IsThere bodies) children → IsSoundAt of bodies at
    sound h body here = record {
      blob = blob;
      is = sym (ap blob_if_some here) ∙ is;
      can = can;
      keyed = h.0 ∙ same;
      children = subst (Each (IsThere bodies)) kids h.1;
    }

    to : (it : Flaw) → IsWrongKey of key blob it ⊎ IsOfSome (IsMissingChild bodies key) children it → IsFlawAt of bodies at it
    to it (inl wrong) = subst (IsFlawAt of bodies at) (sym wrong.0)
        (same, ((λ none. can (sym same ∙ none)), (blob, ap (blobs_of bodies) same ∙ is, wrong.1)))
    to it (inr lost) = subst (IsFlawAt of bodies at) (sym lost.2.0)
        (same, ((λ none. can (sym same ∙ none)), (blob, ap (blobs_of bodies) same ∙ is, subst (λ (l : List ℕ). Contains l lost.0) kids lost.1), lost.2.1))

    blob_is : (own : ℕ) (other : Blob) → own ≡ at → blobs_of bodies own ≡ Some other → other ≡ blob
    blob_is own other here found = let both : Some other ≡ Some blob = sym found ∙ ap (blobs_of bodies) here ∙ is in cc

    from : (it : Flaw) → IsFlawAt of bodies at it → IsWrongKey of key blob it ⊎ IsOfSome (IsMissingChild bodies key) children it
    from (flaw.StrayBlob own) h = absurd (elim h.1.2 [
      | inl at_zero ↦ can (sym h.0 ∙ at_zero)
      | inr none ↦ absurd (let both : None ≡ Some blob = sym none ∙ sym (ap blob_if_some h.1.1) ∙ ap (blobs_of bodies) h.0 ∙ is in cc)
    ])
    from (flaw.WrongKey own) h =
        let one = blob_is own h.1.1.0 h.0 h.1.1.1 in
        inl (ap (λ (k : ℕ). flaw.WrongKey k) (h.0 ∙ sym same), λ keyed. h.1.1.2 (ap of one ∙ keyed ∙ same ∙ sym h.0))
    from (flaw.MissingChild own child) h =
        let one = blob_is own h.1.1.0 h.0 h.1.1.1 in
        inr (
          child,
          subst (λ (l : List ℕ). Contains l child) (ap (λ (b : Blob). b.keys) one ∙ sym kids) h.1.1.2,
          (ap (λ (k : ℕ). flaw.MissingChild k child) (h.0 ∙ sym same), h.1.2),
        )
    from (flaw.MissingRoot name own) h = absurd h.0

-- what holds of an option's value, if there is one
pub of_some : {A : Type 0} (P : A → Type 0) (o : Option A) (x : A) → o ≡ Some x → IfSome o P → P x
of_some {A} P o x is h = subst (λ (it : Option A). IfSome it P) is h

-- what holds if there is no value
pub of_none : {A : Type 0} (P : Type 0) (o : Option A) → o ≡ None → IfNone o P → P
of_none {A} P o is h = subst (λ (it : Option A). IfNone it P) is h

-- there is no body where no place was found
pub no_body : {P B : Type 0} (f : P → B) (found known : Option P) → found ≡ known → is_some found ≡ false → option_map f known ≡ None
no_body f found None same none = refl
no_body f found (Some p) same none = absurd (let both : false ≡ true = sym none ∙ ap is_some same in cc)

-- an element that is there is got, whatever stands for one that isn't
pub got : {A : Type 0} (xs : List A) (i : ℕ) (x y : A) → i < length xs → get_or xs i x ≡ get_or xs i y
got [] i x y h = absurd (omega (arith, h))
got (a ∷ xs) zero x y h = refl
got (a ∷ xs) (suc i) x y h = got xs i x y (omega (arith, h))

-- what holds of each item's image holds of each image
each_image : {A B : Type 0} (f : A → B) (P : B → Type 0) (xs : List A) → Each (λ x. P (f x)) xs → Each P (map f xs)
each_image f P [] all = tt
each_image f P (x ∷ xs) all = (all.0, each_image f P xs all.1)

-- what holds of each listed entry holds of each key under which there is something
pub of_listed : {A K X : Type 0} (f : A → K) (found : K → Option X) (P : K → Type 0) (xs : List A) → Lists found (map f xs) → Each (λ x. P (f x)) xs
    → (key : K) → IsSome (found key) → P key
of_listed f found P xs lists all key some =
    All-contains P (map f xs) key (All-from_recursion P (map f xs) (each_image f P xs all)) (lists.all key some)

-- the same content is the same bodies and names
pub bodies_same : {D : Type 0} (g : Ghosts D) (old new : BlobFile D) → Same (content g old) (content g new) → stored g new ≡ stored g old
bodies_same g old new same i key = same.blobs key i

pub names_same : {D : Type 0} (g : Ghosts D) (old new : BlobFile D) → Same (content g old) (content g new) → named new ≡ named old
names_same g old new same i name = same.names name i

pub stays_self : {D : Type 0} (g : Ghosts D) (it : BlobFile D) → Stays g it it
stays_self g it = record {
  content = record { blobs = λ key. refl; names = λ name. refl };
  flushed = record { blobs = λ key. refl; names = λ name. refl };
  whole = refl;
  may = refl;
  clean = λ clean. clean;
}

pub stays_then : {D : Type 0} (g : Ghosts D) (a b c : BlobFile D) → Stays g a b → Stays g b c → Stays g a c
stays_then g a b c s t = record {
  content = record { blobs = λ key. t.content.blobs key ∙ s.content.blobs key; names = λ name. t.content.names name ∙ s.content.names name };
  flushed = record { blobs = λ key. t.flushed.blobs key ∙ s.flushed.blobs key; names = λ name. t.flushed.names name ∙ s.flushed.names name };
  whole = t.whole ∙ s.whole;
  may = t.may ∙ s.may;
  clean = λ clean. s.clean (t.clean clean);
}

-- a name whose blob was looked for
pub name_tested : (bodies : ℕ → Option Body) (names : List ℕ → Option ℕ) (name : List ℕ) (own : String Global) (key : ℕ) {a b : List Flaw}
    → string_bytes own ≡ name → names name ≡ Some key → TellsFlaws (IsIfMissing bodies key (flaw.MissingRoot own key)) a b (IsThere bodies key)
    → TellsFlaws (IsMissingRoot bodies names name) a b (IsSoundName bodies names name)
name_tested bodies names name own key text stands t = tested_like to from sound t
  where
    same_key : (k : ℕ) → names name ≡ Some k → k ≡ key
    same_key k is = let both : Some k ≡ Some key = sym is ∙ stands in cc

    sound : IsThere bodies key → IsSoundName bodies names name
    sound there k is = subst (IsThere bodies) (sym (same_key k is)) there

    to : (it : Flaw) → IsIfMissing bodies key (flaw.MissingRoot own key) it → IsMissingRoot bodies names name it
    to it h = subst (IsMissingRoot bodies names name) (sym h.0) (text, stands, h.1)

    from : (it : Flaw) → IsMissingRoot bodies names name it → (one : Flaw) × IsIfMissing bodies key (flaw.MissingRoot own key) one × IsLike it one
    from (flaw.StrayBlob k) h = absurd h
    from (flaw.WrongKey k) h = absurd h
    from (flaw.MissingChild k child) h = absurd h
    from (flaw.MissingRoot n k) h =
        let same = same_key k h.1 in (
          flaw.MissingRoot own key,
          (refl, sym (ap bodies same) ∙ h.2),
          (own, ap (λ (x : ℕ). flaw.MissingRoot own x) (sym same), text ∙ sym h.0),
        )

pub nameless : (bodies : ℕ → Option Body) (names : List ℕ → Option ℕ) (name : List ℕ) {old : List Flaw} → names name ≡ None
    → TellsFlaws (IsMissingRoot bodies names name) old old (IsSoundName bodies names name)
nameless bodies names name none = passed none_of (λ key is. absurd (let both : None ≡ Some key = sym none ∙ is in cc))
  where
    none_of : (it : Flaw) → IsMissingRoot bodies names name it → ⊥
    none_of (flaw.StrayBlob key) h = absurd h
    none_of (flaw.WrongKey key) h = absurd h
    none_of (flaw.MissingChild key child) h = absurd h
    none_of (flaw.MissingRoot own key) h = absurd (let both : None ≡ Some key = sym none ∙ h.1 in cc)

-- a listed key comes from an entry
of_map : {A B : Type 0} (f : A → B) (xs : List A) (y : B) (k : ℕ) → k < length (map f xs) → get_or (map f xs) k y ≡ y → (x : A) × Contains xs x × (f x ≡ y)
of_map f [] y k h is = absurd (omega (arith, h))
of_map f (x ∷ xs) y zero h is = (x, (zero, omega arith, refl), is)
of_map f (x ∷ xs) y (suc k) h is =
    let more = of_map f xs y k (omega (arith, h)) is in
    (more.0, Contains-append_right (x ∷ []) xs more.0 more.1, more.2)

-- a flaw of what stands under a key says that something stands there
some_at : (of : Blob → ℕ) (bodies : ℕ → Option Body) (at : ℕ) (it : Flaw) → IsFlawAt of bodies at it → IsSome (bodies at)
some_at of bodies at it h = go (bodies at) refl
  where
    go : (o : Option Body) → bodies at ≡ o → IsSome o
    go (Some body) e = refl
    go None e = absurd (no_flaw_of_none of bodies at it e h)

-- all listed blobs were tested
pub blobs_tested : (of : Blob → ℕ) (bodies : ℕ → Option Body) (entries : List FileEntry) {a b : List Flaw} → Lists bodies (map (λ e. e.key) entries)
    → TellsFlaws (IsOfSome (λ e. IsFlawAt of bodies e.key) entries) a b (Each (λ e. IsSoundAt of bodies e.key) entries)
    → TellsFlaws (IsFlawOfBlobs of bodies) a b ((key : ℕ) → IsSoundAt of bodies key)
blobs_tested of bodies entries lists t = tested_as (λ it h. (h.0.key, h.2)) from
    (λ each key body here. of_listed (λ (e : FileEntry). e.key) bodies (IsSoundAt of bodies) entries lists each key (ap is_some here) body here) t
  where
    from : (it : Flaw) → IsFlawOfBlobs of bodies it → IsOfSome (λ (e : FileEntry). IsFlawAt of bodies e.key) entries it
    from it h =
        let among = lists.all h.0 (some_at of bodies h.0 it h.1) in
        let entry = of_map (λ (e : FileEntry). e.key) entries h.0 among.0 among.1 among.2 in
        (entry.0, entry.1, subst (λ (k : ℕ). IsFlawAt of bodies k it) (sym entry.2) h.1)

-- all names were tested
pub names_tested : (bodies : ℕ → Option Body) (names : List ℕ → Option ℕ) (listed : List (String Global)) {a b : List Flaw}
    → Lists names (map string_bytes listed)
    → TellsFlaws (IsOfSome (λ n. IsMissingRoot bodies names (string_bytes n)) listed) a b (Each (λ n. IsSoundName bodies names (string_bytes n)) listed)
    → TellsFlaws (IsFlawOfNames bodies names) a b ((name : List ℕ) → IsSoundName bodies names name)
names_tested bodies names listed lists t = tested_as (λ it h. (string_bytes h.0, h.2)) from
    (λ each name key is. of_listed (λ (n : String Global). string_bytes n) names (IsSoundName bodies names) listed lists each name (ap is_some is) key is) t
  where
    stands : (name : List ℕ) (it : Flaw) → IsMissingRoot bodies names name it → IsSome (names name)
    stands name (flaw.StrayBlob key) h = absurd h
    stands name (flaw.WrongKey key) h = absurd h
    stands name (flaw.MissingChild key child) h = absurd h
    stands name (flaw.MissingRoot own key) h = ap is_some h.1

    from : (it : Flaw) → IsFlawOfNames bodies names it → IsOfSome (λ (n : String Global). IsMissingRoot bodies names (string_bytes n)) listed it
    from it h =
        let among = lists.all h.0 (stands h.0 it h.1) in
        let entry = of_map (λ (n : String Global). string_bytes n) listed h.0 among.0 among.1 among.2 in
        (entry.0, entry.1, subst (λ (name : List ℕ). IsMissingRoot bodies names name it) (sym entry.2) h.1)

-- all blobs and all names were tested
pub all_found : (of : Blob → ℕ) (bodies bodies' : ℕ → Option Body) (names names' : List ℕ → Option ℕ) {start mid end : List Flaw} → start ≡ []
    → bodies' ≡ bodies → names' ≡ names → TellsFlaws (IsFlawOfBlobs of bodies) start mid ((key : ℕ) → IsSoundAt of bodies key)
    → TellsFlaws (IsFlawOfNames bodies' names') mid end ((name : List ℕ) → IsSoundName bodies' names' name)
    → TellsFlaws (IsFlaw of bodies names) [] end (IsWhole of bodies names)
all_found of bodies bodies' names names' empty same same' f g =
    rw (← empty) (tested_as (flaw_of_parts of bodies names) (flaw_parts of bodies names) (λ h. record { blobs = h.0; named = h.1 })
    (tested_then f (rw (same, same') at g)))
