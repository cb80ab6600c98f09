-- What `regex` builds from a text, and why it builds nothing.
use Rattle.pagable_traits.specs.OwnCauses.{ReadCauses}
use Rattle.pagable_value_spec.specs.{
  Meaning.{Meaning, pattern},
  Refusals.is_own_reading,
  declared.{error.Error.Error, numbers.ArcRef.ArcRef},
}
use Rattle.regex.specs.{
  Failures.IsRightKind,
  Patterns.default_config,
  Sources.IsRefusal,
  Strings.{IsReadFromSource, regex_config, regex_source},
  declared.{error.Error.Error as Cause, string.regex.Regex.Regex},
}
use Rattle.std.proofs.Common.{inl, inr}
use Rattle.std.specs.Prelude.{List, Ok, Result, refl, true, ℕ, ◌≡◌, ◌≢◌, ◌⊎◌}
use Rattle.regex.specs.declared.error.Error.TheVariants as causes
use Rattle.pagable_value_spec.specs.declared.error.Error.TheVariants as errors

-- The regular expression is the one that the grammar of `regex` reads in this text, with the default options.
pub record IsBuiltFrom (text : List ℕ) (built : Regex) : Type 0 where
  pub source : regex_source built ≡ text
  pub config : regex_config built ≡ default_config
  pub read : IsReadFromSource built

-- `regex` may refuse the text, for a cause that fits it and is neither memory nor an internal fault
pub record IsNoPattern (text : List ℕ) : Type 0 where
  pub cause : Cause
  pub no_memory : cause ≢ causes.OutOfMemory
  pub no_fault : cause ≢ causes.Internal
  pub unread : IsRefusal default_config text cause
  pub kind : IsRightKind default_config text cause

-- out of memory, or `regex` refuses the text
abbrev pub IsBuildError : List ℕ → Error → Type 0
IsBuildError text e = (e ≡ errors.OutOfMemory) ⊎ ((e ≡ errors.RegexRefused) × IsNoPattern text)

-- the error for an error of `regex`
abbrev pub refusal_of : Cause → Error
refusal_of causes.OutOfMemory = errors.OutOfMemory
refusal_of _ = errors.RegexRefused

-- reading returned a pattern whose text `regex` may refuse
pub record ReadsRefusedPattern {R : Type 0} (read : Result (Meaning ArcRef × R) Error) : Type 0 where
  pub text : List ℕ
  pub after : R
  pub gave : read ≡ Ok (pattern text, after)
  pub refused : IsNoPattern text

-- the errors of reading a pattern beside the faults of the input
abbrev pub pattern_causes : Error → Type 0
pattern_causes e = (e ≡ errors.OutOfMemory) ⊎ (e ≡ errors.RegexRefused)

pub pattern_own : (e : Error) → pattern_causes e → is_own_reading e ≡ true
pattern_own e (inl h) = rw h refl
pattern_own e (inr h) = rw h refl

abbrev pub reads_pattern : ReadCauses
reads_pattern = record { are = pattern_causes; own = pattern_own }
