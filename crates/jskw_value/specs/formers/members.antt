pub mod MemberList
