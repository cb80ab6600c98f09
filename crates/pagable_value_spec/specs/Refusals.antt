-- The numbers of the errors; which of them say that an input or a value is outside the wire format; and which others
-- readers and writers may return.
use Rattle.pagable_value_spec.specs.declared.error.Error.{Error}
use Rattle.std.specs.Prelude.{Bool, false, true, ℕ}

-- from 1 on, in the order of the type
abbrev pub number_of : Error → ℕ
number_of Error.UnexpectedEnd = 1
number_of Error.BadVarint = 2
number_of Error.BadBool = 3
number_of Error.BadUtf8 = 4
number_of Error.BadChar = 5
number_of Error.TooLong = 6
number_of Error.TooDeep = 7
number_of Error.JsonCase = 8
number_of Error.JsonNumber = 9
number_of Error.BadDuration = 10
number_of Error.RegexRefused = 11
number_of Error.UnknownTag = 12
number_of Error.BadStaticIndex = 13
number_of Error.Unregistered = 14
number_of Error.NoMoreKeys = 15
number_of (Error.NoData key) = 16
number_of Error.WrongKind = 17
number_of Error.NoSuchHandle = 18
number_of Error.WrongMode = 19
number_of Error.NotYours = 20
number_of Error.NumbersSpent = 21
number_of Error.OutOfMemory = 22
number_of (Error.Storage code) = 23
number_of Error.KeyTaken = 24
number_of Error.Closed = 25
number_of (Error.Custom text) = 26

-- the errors that say that an input is outside the grammar; the others say nothing about it
abbrev pub is_reading_fault : Error → Bool
is_reading_fault Error.UnexpectedEnd = true
is_reading_fault Error.BadVarint = true
is_reading_fault Error.BadBool = true
is_reading_fault Error.BadUtf8 = true
is_reading_fault Error.BadChar = true
is_reading_fault Error.TooLong = true
is_reading_fault Error.TooDeep = true
is_reading_fault Error.JsonCase = true
is_reading_fault Error.JsonNumber = true
is_reading_fault Error.BadDuration = true
is_reading_fault Error.UnknownTag = true
is_reading_fault Error.BadStaticIndex = true
is_reading_fault Error.NoMoreKeys = true
is_reading_fault _ = false

-- The errors that a reader may add of its own: RegexRefused, OutOfMemory, and a reason in words.
abbrev pub is_own_reading : Error → Bool
is_own_reading Error.RegexRefused = true
is_own_reading Error.OutOfMemory = true
is_own_reading (Error.Custom text) = true
is_own_reading _ = false

-- The errors with which resolving a reference may fail: all but Unregistered, which only writers return, and KeyTaken
-- and Closed, which only storing returns.
abbrev pub may_refuse_reference : Error → Bool
may_refuse_reference Error.Unregistered = false
may_refuse_reference Error.KeyTaken = false
may_refuse_reference Error.Closed = false
may_refuse_reference _ = true

-- the errors with which a writer says that a value has no form
abbrev pub is_writing_fault : Error → Bool
is_writing_fault Error.TooLong = true
is_writing_fault Error.TooDeep = true
is_writing_fault Error.JsonNumber = true
is_writing_fault _ = false

-- All errors that a writer may return: TooLong, TooDeep, JsonNumber, Unregistered, OutOfMemory, and a reason in words.
abbrev pub may_refuse_writing : Error → Bool
may_refuse_writing Error.TooLong = true
may_refuse_writing Error.TooDeep = true
may_refuse_writing Error.JsonNumber = true
may_refuse_writing Error.Unregistered = true
may_refuse_writing Error.OutOfMemory = true
may_refuse_writing (Error.Custom text) = true
may_refuse_writing _ = false
