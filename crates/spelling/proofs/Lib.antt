pub mod PutLaws
mod LeafLaws
mod CellLaws
mod ValueLaws
mod MemberLaws
