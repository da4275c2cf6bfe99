-- Inner words: the right to free a block.
use mir.Syntax.{Ty}
use base.Fml.{Fml}
use denote.RawPtr.{Ptr}
use Rattle.std_heap.specs.contracts.GlobalAllocator.TheImpl.{ghosts}

-- what the allocator asks for of who frees a block, whose handle it doesn't look at
abbrev pub chunk : Ty → Ptr → Fml
chunk σ p = ghosts.dealloc_token (record { memory = record { seal = record {} } }) σ p
