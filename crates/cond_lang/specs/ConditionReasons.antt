-- Why a text is no condition: what each refusal is called, its number, and its place in the text.
use Rattle.std.specs.Prelude.{codes}
use Rattle.plain_types.specs.Reasons.{PlainReason, refused_at, refused_nowhere}
use Rattle.cond_lang.specs.declared.error.CondError.{CondError}
use Rattle.cond_lang.specs.declared.error.CondError.TheVariants.{Bad, UnknownName, TypeClash, TooDeep, OutOfMemory}

-- running out of memory has no number, which is written 0, and no place
abbrev pub cond_reason : CondError → PlainReason
cond_reason (Bad at) = refused_at (codes "Bad") 1 at
cond_reason (UnknownName at) = refused_at (codes "UnknownName") 2 at
cond_reason (TypeClash at) = refused_at (codes "TypeClash") 3 at
cond_reason (TooDeep at) = refused_at (codes "TooDeep") 4 at
cond_reason OutOfMemory = refused_nowhere (codes "OutOfMemory") 0
