use Rattle.std.specs.Prelude.{codes}
use Rattle.qg_script.proofs.Commands.{commit_read, create_read, no_command, off_read, on_read, other_word, reads_not}
use Rattle.qg_script.proofs.Commands.{reads_whole, same_word, show_read}
use Rattle.qg_script.proofs.parse.other_command.Goals as goal

pub returns-then-eq : goal.returns-then-eq
returns-then-eq c = commit_read
    (same_word c.args.text.now c.as_slice.result.now (codes "commit") c.if-eq.ensures c.as_slice.ensures)

pub returns-then-eq-2 : goal.returns-then-eq-2
returns-then-eq-2 c = show_read (same_word c.args.text.now c.as_slice-else-eq.result.now
    (codes "show") c.if-eq-2.ensures c.as_slice-else-eq.ensures)

pub returns-then-eq-3 : goal.returns-then-eq-3
returns-then-eq-3 c = create_read (same_word c.args.text.now c.as_slice-else-eq-2.result.now
    (codes "sub create") c.if-eq-3.ensures c.as_slice-else-eq-2.ensures)

pub returns-then-eq-4 : goal.returns-then-eq-4
returns-then-eq-4 c = on_read (same_word c.args.text.now c.as_slice-else-eq-3.result.now
    (codes "quota on") c.if-eq-4.ensures c.as_slice-else-eq-3.ensures)

pub returns-then-eq-5 : goal.returns-then-eq-5
returns-then-eq-5 c = off_read (same_word c.args.text.now c.as_slice-else-eq-4.result.now
    (codes "quota off") c.if-eq-5.ensures c.as_slice-else-eq-4.ensures)

pub returns-then-eq-6 : goal.returns-then-eq-6
returns-then-eq-6 c = reads_whole c.requires.parted (same_word c.args.word.now c.as_slice-else-eq-5.result.now
    (codes "write") c.if-eq-6.ensures c.as_slice-else-eq-5.ensures) c.read_write.ensures

pub returns-then-eq-7 : goal.returns-then-eq-7
returns-then-eq-7 c = reads_whole c.requires.parted (same_word c.args.word.now c.as_slice-else-eq-6.result.now
    (codes "clone") c.if-eq-7.ensures c.as_slice-else-eq-6.ensures) c.read_clone.ensures

pub returns-then-eq-8 : goal.returns-then-eq-8
returns-then-eq-8 c = reads_whole c.requires.parted (same_word c.args.word.now c.as_slice-else-eq-7.result.now
    (codes "truncate") c.if-eq-8.ensures c.as_slice-else-eq-7.ensures) c.read_truncate.ensures

pub returns-then-eq-9 : goal.returns-then-eq-9
returns-then-eq-9 c = reads_whole c.requires.parted (same_word c.args.word.now c.as_slice-else-eq-8.result.now
    (codes "unlink") c.if-eq-9.ensures c.as_slice-else-eq-8.ensures) c.read_unlink.ensures

pub returns-then-eq-10 : goal.returns-then-eq-10
returns-then-eq-10 c = reads_whole c.requires.parted (same_word c.args.word.now c.as_slice-else-eq-9.result.now
    (codes "ls") c.if-eq-10.ensures c.as_slice-else-eq-9.ensures) c.read_ls.ensures

pub returns-then-eq-11 : goal.returns-then-eq-11
returns-then-eq-11 c = reads_whole c.requires.parted (same_word c.args.word.now c.as_slice-else-eq-10.result.now
    (codes "delete") c.if-eq-11.ensures c.as_slice-else-eq-10.ensures) c.read_delete.ensures

pub returns-then-eq-12 : goal.returns-then-eq-12
returns-then-eq-12 c = reads_whole c.requires.parted (same_word c.args.word.now c.as_slice-else-eq-11.result.now
    (codes "owners") c.if-eq-12.ensures c.as_slice-else-eq-11.ensures) c.read_owners.ensures

pub returns-then-eq-13 : goal.returns-then-eq-13
returns-then-eq-13 c = reads_whole c.requires.parted (same_word c.args.word.now c.as_slice-else-eq-12.result.now
    (codes "qgroup") c.if-eq-13.ensures c.as_slice-else-eq-12.ensures) c.read_qgroup.ensures

pub returns-then-eq-14 : goal.returns-then-eq-14
returns-then-eq-14 c = reads_whole c.requires.parted (same_word c.args.word.now c.as_slice-else-eq-13.result.now
    (codes "assign") c.if-eq-14.ensures c.as_slice-else-eq-13.ensures) c.read_assign.ensures

pub returns-then-eq-15 : goal.returns-then-eq-15
returns-then-eq-15 c = reads_whole c.requires.parted (same_word c.args.word.now c.as_slice-else-eq-14.result.now
    (codes "remove") c.if-eq-15.ensures c.as_slice-else-eq-14.ensures) c.read_remove.ensures

pub returns-then-eq-16 : goal.returns-then-eq-16
returns-then-eq-16 c = reads_whole c.requires.parted (same_word c.args.word.now c.as_slice-else-eq-15.result.now
    (codes "limit") c.if-eq-16.ensures c.as_slice-else-eq-15.ensures) c.read_limit.ensures

pub returns-else-eq-16 : goal.returns-else-eq-16
returns-else-eq-16 c = reads_not (no_command c.requires.parted (record {
  commit = other_word c.args.text.now c.as_slice.result.now (codes "commit") c.if-eq.ensures c.as_slice.ensures;
  show = other_word c.args.text.now c.as_slice-else-eq.result.now (codes "show") c.if-eq-2.ensures
      c.as_slice-else-eq.ensures;
  create = other_word c.args.text.now c.as_slice-else-eq-2.result.now (codes "sub create") c.if-eq-3.ensures
      c.as_slice-else-eq-2.ensures;
  on = other_word c.args.text.now c.as_slice-else-eq-3.result.now (codes "quota on") c.if-eq-4.ensures
      c.as_slice-else-eq-3.ensures;
  off = other_word c.args.text.now c.as_slice-else-eq-4.result.now (codes "quota off") c.if-eq-5.ensures
      c.as_slice-else-eq-4.ensures;
  write = other_word c.args.word.now c.as_slice-else-eq-5.result.now (codes "write") c.if-eq-6.ensures
      c.as_slice-else-eq-5.ensures;
  clone = other_word c.args.word.now c.as_slice-else-eq-6.result.now (codes "clone") c.if-eq-7.ensures
      c.as_slice-else-eq-6.ensures;
  truncate = other_word c.args.word.now c.as_slice-else-eq-7.result.now (codes "truncate") c.if-eq-8.ensures
      c.as_slice-else-eq-7.ensures;
  unlink = other_word c.args.word.now c.as_slice-else-eq-8.result.now (codes "unlink") c.if-eq-9.ensures
      c.as_slice-else-eq-8.ensures;
  ls = other_word c.args.word.now c.as_slice-else-eq-9.result.now (codes "ls") c.if-eq-10.ensures
      c.as_slice-else-eq-9.ensures;
  delete = other_word c.args.word.now c.as_slice-else-eq-10.result.now (codes "delete") c.if-eq-11.ensures
      c.as_slice-else-eq-10.ensures;
  owners = other_word c.args.word.now c.as_slice-else-eq-11.result.now (codes "owners") c.if-eq-12.ensures
      c.as_slice-else-eq-11.ensures;
  qgroup = other_word c.args.word.now c.as_slice-else-eq-12.result.now (codes "qgroup") c.if-eq-13.ensures
      c.as_slice-else-eq-12.ensures;
  assign = other_word c.args.word.now c.as_slice-else-eq-13.result.now (codes "assign") c.if-eq-14.ensures
      c.as_slice-else-eq-13.ensures;
  remove = other_word c.args.word.now c.as_slice-else-eq-14.result.now (codes "remove") c.if-eq-15.ensures
      c.as_slice-else-eq-14.ensures;
  limit = other_word c.args.word.now c.as_slice-else-eq-15.result.now (codes "limit") c.if-eq-16.ensures
      c.as_slice-else-eq-15.ensures;
  snap = c.requires.other;
}))
