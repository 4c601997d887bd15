-- What the guest has of the kernel, and what each event changes of it.
use Rattle.std.specs.Prelude.{ℕ, zero, suc, ◌+◌, Bool, true, false, List, [], ◌∷◌, ◌++◌, Option, Some, None, take, drop, unwrap_or}
use Rattle.guest_mem.specs.Image.{PageImage}
use Rattle.guest_mem.specs.Memory.{bytes, mapped, texts}
use Rattle.pl_base.specs.Pages.{marked}
use Rattle.guest_mem.specs.Bytes.{written, repaged}
use Rattle.guest_heap.specs.Blocks.{asked, changed}
use Rattle.pl_event.specs.declared.event.Kind.{Kind}
use Rattle.pl_event.specs.declared.event.Kind.TheVariants.{Al, Fr, Mp, Um, Rd, Wr}
use Rattle.guest_kernel.specs.declared.call.KernelStep.{KernelStep}
use Rattle.guest_kernel.specs.declared.call.KernelStep.TheVariants.{Ended, Went}
use Rattle.guest_kernel.specs.Image.{KernelImage}

-- the byte at each address, where its page is mapped; which pages are mapped, and which are text; the asked size of
-- the live block that starts at each address; the input that is left; the output so far
pub record State : Type 0 where
  pub bytes : ℕ → Option ℕ
  pub mapped : ℕ → Bool
  pub texts : ℕ → Bool
  pub blocks : ℕ → Option ℕ
  pub input : List ℕ
  pub output : List ℕ

-- what the guest has of a kernel
abbrev pub state_of : KernelImage → State
state_of kernel = record {
  bytes = bytes kernel.memory;
  mapped = mapped kernel.memory;
  texts = texts kernel.memory;
  blocks = asked kernel.heap;
  input = kernel.input;
  output = kernel.output;
}

-- at the start no block is live, and nothing has gone outside
abbrev pub started : List (Option PageImage) → List ℕ → State
started memory input = record {
  bytes = bytes memory;
  mapped = mapped memory;
  texts = texts memory;
  blocks = λ _. None;
  input = input;
  output = [];
}

-- so many bytes from there on
abbrev pub bytes_from : (ℕ → Option ℕ) → ℕ → ℕ → List ℕ
bytes_from bytes at zero = []
bytes_from bytes at (suc count) = unwrap_or (bytes at) 0 ∷ bytes_from bytes (at + 1) count

-- what an event of the kernel changes: a block is live from its al to its fr; new pages hold zeros; an rd moves the
-- next input bytes into memory, and a wr moves bytes of memory to the output
abbrev pub changed_by : State → Kind → State
changed_by s (Al addr len) = record s { blocks = changed s.blocks addr (Some len) }
changed_by s (Fr addr len) = record s { blocks = changed s.blocks addr None }
changed_by s (Mp page count) = record s {
  bytes = repaged s.bytes page count (Some 0);
  mapped = marked s.mapped page count true;
  texts = marked s.texts page count false;
}
changed_by s (Um page count) = record s {
  bytes = repaged s.bytes page count None;
  mapped = marked s.mapped page count false;
  texts = marked s.texts page count false;
}
changed_by s (Rd addr len) = record s { bytes = written s.bytes addr (take len s.input); input = drop len s.input }
changed_by s (Wr addr len) = record s { output = s.output ++ bytes_from s.bytes addr len }
changed_by s _ = s

-- the state after a call
abbrev pub after : State → KernelStep → State
after s (Ended code) = s
after s (Went a0 kind) = changed_by s kind
