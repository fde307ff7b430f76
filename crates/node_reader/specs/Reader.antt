-- What a reader of a node means.
--
--   Left         what is left of a node from its next entry on
--   Takes        the next entry, and the entries behind it
--   entries_of   the entries of a reader's node
--   OfNode       the reader is that of the encoding of a node
--   Reads        the reader is that of a block, and the block is the encoding of a node
--
-- Assumes nothing.
use Rattle.std.specs.Prelude.{◌≡◌, ℕ, List, Some, None, Option}
use Rattle.node.specs.Format.{Node}
use Rattle.node.specs.Laws.{Encodes}
use Rattle.node.specs.Values.{link_of}
use Rattle.node.specs.declared.entry.Entry.{Entry}
use Rattle.node_reader.specs.Nodes.{Ends, Rest, Steps}
use Rattle.node_reader.specs.declared.entries.Entries.{Entries}
use Rattle.node_reader.specs.declared.reader.NodeReader.{NodeReader}

abbrev pub Left : Entries → Node → Type 0
Left es n = Rest es.input.code es.input.block.now es.cursor n

-- where no entry is to come, nothing changes
abbrev pub Takes : Entries → Option Entry → Entries → Type 0
Takes es None behind = Ends es.input.code es.input.block.now es.cursor × (behind ≡ es)
Takes es (Some e) behind = Steps es.input.code es.input.block.now es.cursor e behind.cursor × (behind.input ≡ es.input)

-- from the first on
abbrev pub entries_of : NodeReader → Entries
entries_of r = record { input = r.input; cursor = r.start }

-- the node whose encoding the block is, with the cursor before its entries
pub record OfNode (r : NodeReader) (n : Node) : Type 0 where
  pub encodes : Encodes r.input.code r.input.block.now n
  pub rest : Rest r.input.code r.input.block.now r.start n
  pub its_first : link_of r.first ≡ n.first
  -- before the first entry there is no key
  pub fresh : r.start.last ≡ None

pub record Reads (c : ℕ) (s : List ℕ) (r : NodeReader) : Type 0 where
  pub kind : r.input.code ≡ c
  pub block : r.input.block.now ≡ s
  pub node : Node
  pub of_node : OfNode r node
